-- The keeper's seat after a step, and what was seen.
use Rattle.std.proofs.Common.{◌≡◌, ◌≢◌, ℕ, ◌+◌, ◌-◌, ◌*◌, ◌<◌, List, [], ◌∷◌, ◌++◌, length, sym, refl, ap, ◌∙◌, subst, arith, Option, Some, None, Result, Ok, Err, IfOk, length-append}
use Rattle.std.specs.FinMap as finmap
use Rattle.atomic_table.specs.declared.shared.Seat.{Seat}
use Rattle.cells.specs.Tables.{Rows}
use Rattle.cells.specs.Values.{Table}
use Rattle.board.specs.Editions.{Edition, History, IsHistory, IsLastOf, last_rows}
use Rattle.board.specs.Ends.{IsAt, TakesSide, progress_at}
use Rattle.board.specs.Law.{IsEnd, Sat, keeping, progress_of}
use Rattle.board.specs.declared.law.Progress.{Progress}
use Rattle.board.specs.declared.law.View.{View}
use Rattle.board.proofs.HistoryLemmas.{last_rows_push}

-- what is so of the keeper's seat, where its token is this
pub record Rests (done : ℕ) (p : Progress) (table : Table) (history : History) (t : Seat (Option Edition) View) : Type 0 where
  pub at : IsAt done t
  pub seen : t.me.0.seen ≡ history
  pub schema : t.me.0.schema ≡ table
  pub made : (progress_at t).made ≡ p.made

pub at_of : (t : Seat (Option Edition) View) (done : ℕ) (p : Progress) (table : Table) (history : History) → t.me ≡ (keeping (record p { done = done; hand = 0 }) table history, []) → Rests done p table history t
at_of t done p table history is = record {
  at = is ∙ sym (ap (λ (m : Sat). (keeping (record (progress_of m.0.role) { done = done; hand = 0 }) m.0.schema m.0.seen, [])) is);
  seen = ap (λ (m : Sat). m.0.seen) is;
  schema = ap (λ (m : Sat). m.0.schema) is;
  made = ap (λ (m : Sat). (progress_of m.0.role).made) is;
}

-- the keeper, once it has taken the hidden side of a box
pub side_of : (s t : Seat (Option Edition) View) (word side : ℕ) (found : Option Edition) → side < 2 → t.table_id ≡ s.table_id → IsAt (word - 1) s
    → t.me ≡ (keeping (record (progress_at s) { hand = word; side = side }) s.me.0.schema s.me.0.seen, (2 * word + (1 - side), found) ∷ []) → TakesSide word side s t
side_of s t word side found low same at is =
    let held : Progress → Sat = λ p. (keeping (record p { hand = word; side = side }) s.me.0.schema s.me.0.seen, (2 * word + (1 - side), found) ∷ []) in
    let whole : t.me ≡ held (record (progress_at s) { done = word - 1; hand = 0 }) = is ∙ ap held (ap (λ (m : Sat). progress_of m.0.role) at) in
    record {
      same = same;
      has = record {
        low = low;
        found = found;
        at = whole ∙ sym (ap (λ (m : Sat). (keeping (record (progress_of m.0.role) { done = word - 1; hand = word; side = side }) m.0.schema m.0.seen, (2 * word + (1 - side), found) ∷ [])) whole);
      };
      seen = ap (λ (m : Sat). m.0.seen) whole;
      schema = ap (λ (m : Sat). m.0.schema) whole;
      made = ap (λ (m : Sat). (progress_of m.0.role).made) whole;
    }

-- what is put behind the history is its last edition
pub end_of : (seen more : History) (table : Table) (e : Edition) → length seen ≡ e.number → e.schema ≡ table → more ≡ seen ++ e.rows ∷ [] → IsEnd more table e
end_of seen more table e long same is =
    let longer : length more ≡ length seen + 1 = ap length is ∙ length-append seen (e.rows ∷ []) in
    record { last = record { long = omega arith; is = sym (last_rows_push seen e.rows) ∙ ap last_rows (sym is) }; schema = same }

-- what was copied of a side that holds the last edition is that
pub ok_end : {X : Type 0} (seen : History) (table : Table) (e : Edition) (held : Option Edition) (r : Result Edition X) → Some e ≡ held → IfOk r (λ s. held ≡ Some s) → IsEnd seen table e → IfOk r (IsEnd seen table)
ok_end seen table e held (Ok s) there copied end = let same : e ≡ s = cc (there, copied) in subst (IsEnd seen table) same end
ok_end seen table e held (Err x) there copied end = tt

pub is_there : (e : Edition) (held : Option Edition) → Some e ≡ held → held ≢ None
is_there e held there none = absurd (cc (there, none))

pub head_is : {X : Type 0} (k j : ℕ) (a b : X) (xs ys : List (ℕ × X)) → ◌≡◌ {A = List (ℕ × X)} ((k, a) ∷ xs) ((j, b) ∷ ys) → a ≡ b
head_is {X} k j a b xs ys e = ap first e
  where
    first : List (ℕ × X) → X
    first [] = a
    first (z ∷ zs) = z.1

-- edition 0 is the last of a history that has no other
pub first_is_last : (seen : History) (e : Edition) (table : Table) → seen ≡ finmap.empty ∷ [] → e ≡ record { number = 0; rows = finmap.empty; schema = table } → IsLastOf seen e.number e.rows
first_is_last seen e table none is =
    let number : e.number ≡ 0 = ap (λ (x : Edition). x.number) is in
    let long : length seen ≡ 1 = ap length none in
    record { long = omega arith; is = ap (λ (x : Edition). x.rows) is ∙ sym (ap last_rows none) }

-- a history with one more edition begins with edition 0 too
pub history_goes_on : (seen more : History) (rows : Rows) → IsHistory seen → more ≡ seen ++ rows ∷ [] → IsHistory more
history_goes_on seen more rows begun is = record { later = begun.later ++ rows ∷ []; is = is ∙ ap (λ (h : History). h ++ rows ∷ []) begun.is }

-- an edition that is put behind the history is its last one
pub next_is_last : (seen more : History) (next e : Edition) → e ≡ next → length seen ≡ next.number → more ≡ seen ++ next.rows ∷ [] → IsLastOf more e.number e.rows
next_is_last seen more next e same long is =
    subst (λ (x : Edition). IsLastOf more x.number x.rows) (sym same) (end_of seen more next.schema next long refl is).last
