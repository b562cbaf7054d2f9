-- Why a run ends early, and what was written so far.
use Rattle.std.proofs.Common.{◌≡◌, ◌++◌, [], Result, Err, ℕ, List, Option, ap, append_assoc, refl, subst, sym}
use Rattle.std.proofs.KnownBytes.{Appends-nil, Appends-trans}
use Rattle.std.proofs.lemmas.List.{append-nil}
use Rattle.std.specs.Io.KnownBytes.{Appends}
use Rattle.std.specs.Prelude.{◌<◌, MatchResult}
use Rattle.report.specs.Laws.{takes_beginning}
use Rattle.report.specs.Taken.{TakesBeginning}
use Rattle.report.specs.declared.unwritten.Unwritten.{Unwritten}
use Rattle.report.specs.declared.unwritten.Unwritten.TheVariants as unwritten
use Rattle.report.specs.declared.want.Want.{Want}
use Rattle.report.specs.declared.want.Want.TheVariants as want
use Rattle.script.specs.Endings.{BeginsToWrite, Delivers, Ends, Writes, ended_for, ended_unstarted, ended_unwritten}
use Rattle.script.specs.declared.ended.Ended.{Ended}
use Rattle.script.specs.declared.unstarted.Unstarted.{Unstarted}
use Rattle.script.specs.declared.unstarted.Unstarted.TheVariants as unstarted

-- an error is what it is said to be
pub match_err : {T E : Type 0} (A : T → Type 0) (B : E → Type 0) (r : Result T E) (e : E) → r ≡ Err e → B e → MatchResult r A B
match_err A B r e met b = rw met b

module _ {W T : Type 0} (taken : W → Option (List ℕ)) (faults : W → ℕ) (old new : W) (IsWhole : List ℕ → Type 0) (e : Ended) (result : Result T Ended)
    (met : result ≡ Err e) (beginning : BeginsToWrite IsWhole (taken old) (taken new)) where
  -- something was wanted behind a beginning of the whole
  pub delivers_for : (wanted : Want) → e ≡ ended_for wanted → Delivers taken faults old new IsWhole result
  delivers_for want.Memory is = rw (met, is) (record { output = tt; beginning = beginning; fault = λ late. absurd cc; sound = tt })
  delivers_for want.Worker is = rw (met, is) (record { output = tt; beginning = beginning; fault = λ late. absurd cc; sound = tt })

  module _ (Asks Views : Type 0) where
    pub ends_for : (wanted : Want) → e ≡ ended_for wanted → (wanted ≡ want.Worker → Asks) → Ends taken faults old new IsWhole Asks Views result
    ends_for want.Memory is asks = record { delivered = delivers_for want.Memory is; worker = λ late. absurd cc; place = λ late. absurd cc }
    ends_for want.Worker is asks = record { delivered = delivers_for want.Worker is; worker = λ late. asks refl; place = λ late. absurd cc }

    -- the text was not written
    pub ends_unwritten : (why : Unwritten) → e ≡ ended_unwritten why → (why ≡ unwritten.WriteFailed → faults old < faults new) → (why ≡ unwritten.Want want.Worker → Asks) →
        Ends taken faults old new IsWhole Asks Views result
    ends_unwritten (unwritten.Want wanted) is failed asks = ends_for wanted is (λ worker. asks (ap unwritten.Want worker))
    ends_unwritten unwritten.WriteFailed is failed asks = rw (met, is) (record {
      delivered = record { output = tt; beginning = beginning; fault = λ late. failed refl; sound = tt };
      worker = λ late. absurd cc;
      place = λ late. absurd cc;
    })

    -- viewers were not started
    pub ends_unstarted : (why : Unstarted) → e ≡ ended_unstarted why → Asks → Views → Ends taken faults old new IsWhole Asks Views result
    ends_unstarted (unstarted.Want wanted) is asks views = ends_for wanted is (λ worker. asks)
    ends_unstarted unstarted.NotShown is asks views = rw (met, is) (record {
      delivered = record { output = tt; beginning = beginning; fault = λ late. absurd cc; sound = tt };
      worker = λ late. asks;
      place = λ late. views;
    })

-- ---- what was written so far

-- with what is left after it, it is such a whole
pub record SoFar (old new : Option (List ℕ)) (Left Whole : List ℕ → Type 0) : Type 0 where
  pub front : List ℕ
  pub taken : Appends old new front
  pub goes_on : (rest : List ℕ) → Left rest → Whole (front ++ rest)

pub none_so_far : (told : Option (List ℕ)) (Whole : List ℕ → Type 0) → SoFar told told Whole Whole
none_so_far told Whole = record { front = []; taken = Appends-nil told; goes_on = λ rest is. is }

module _ {old new : Option (List ℕ)} {Left Whole : List ℕ → Type 0} (so_far : SoFar old new Left Whole) where
  -- nothing more, before what might follow
  pub begins_so_far : (rest : List ℕ) → Left rest → BeginsToWrite Whole old new
  begins_so_far rest is = record {
    whole = so_far.front ++ rest;
    is_whole = so_far.goes_on rest is;
    beginning = record { rest = rest; up_to = record { front = so_far.front; whole_is = refl; taken = so_far.taken } };
  }

  -- nothing is left
  pub whole_so_far : Left [] → Writes Whole old new
  whole_so_far none = record { whole = so_far.front; is_whole = rw append-nil at (so_far.goes_on [] none); taken = so_far.taken }

  module _ (newer : Option (List ℕ)) (After : List ℕ → Type 0) (text : List ℕ) (first : (rest : List ℕ) → After rest → Left (text ++ rest)) where
    -- a block more
    pub more_so_far : Appends new newer text → SoFar old newer After Whole
    more_so_far wrote = record {
      front = so_far.front ++ text;
      taken = Appends-trans old new newer so_far.front text so_far.taken wrote;
      goes_on = λ rest is. subst Whole (sym (append_assoc so_far.front text rest)) (so_far.goes_on (text ++ rest) (first rest is));
    }

    -- or a beginning of it
    pub begins_more : (rest : List ℕ) → After rest → TakesBeginning new newer text → BeginsToWrite Whole old newer
    begins_more rest is beginning =
        let whole = so_far.front ++ (text ++ rest) in
        record {
          whole = whole;
          is_whole = so_far.goes_on (text ++ rest) (first rest is);
          beginning = takes_beginning old new newer whole text rest (record { front = so_far.front; whole_is = refl; taken = so_far.taken }) beginning;
        }
