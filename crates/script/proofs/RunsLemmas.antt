-- How a run ends, and what it writes as a whole.
use Rattle.std.proofs.Common.{◌≡◌, ◌∙◌, ℕ, ◌+◌, ◌<◌, ◌≤◌, Option, Some, None, Result, Ok, Err, List, [], ◌++◌, length, inl, inr, reverse, refl, sym, ap, subst, arith}
use Rattle.std.proofs.KnownBytes.{Appends-trans}
use Rattle.std.proofs.lemmas.List.{append-nil, length-map}
use Rattle.std.specs.Io.KnownBytes.{Appends}
use Rattle.std.specs.Prelude.{◌⊎◌, IfErr, IfOk, IsErrOf, OnOk, Vec}
use Rattle.std.specs.Str.Lines.{lines}
use Rattle.std.specs.declared.alloc.Global.{Global}
use Rattle.board.specs.Editions.{Editions}
use Rattle.cells.specs.declared.cell.Cell.{Cell}
use Rattle.cells.specs.declared.refused.Refused.TheVariants.{Limit, NoTable}
use Rattle.report.specs.Laws.{takes_last}
use Rattle.report.specs.Taken.{TakesUpTo}
use Rattle.script.specs.Endings.{AsksForWorkers, Delivers, Ends, Writes}
use Rattle.script.specs.Givens.{Givens, givens_in}
use Rattle.script.specs.Limits.{part_limit, script_limit}
use Rattle.script.specs.Output.{IsOutput, IsTooMuch, Lines, of_lines as output_of_lines, too_much as output_too_much}
use Rattle.script.specs.Tails.{of_lines as tail_of_lines, too_much as tail_too_much, Viewing}
use Rattle.script.specs.Spelling.{refusal, viewers_refused}
use Rattle.script.specs.Stops.{HoweverFinished, finish_of_refused}
use Rattle.script.specs.Viewers.{AreWritten, EndsBy, EndsLines, EndsRun, EndsSo, HasViewers, IsRunBy, IsStrict, IsWritten, MayWant, too_much_by, too_much_text, GoesOver, IsRest, IsRestIn, IsShown, of_lines as strict_of_lines, too_much as strict_too_much}
use Rattle.script.specs.declared.ended.Ended.{Ended}
use Rattle.script.specs.declared.ended.Ended.TheVariants.{NoWorker, NotShown, WriteFailed}
use Rattle.script.specs.declared.finish.Finish.{Finish}
use Rattle.script.specs.declared.finish.Finish.TheVariants.{Stopped, Through}
use Rattle.script.specs.declared.manner.Manner.{Manner}
use Rattle.script.specs.declared.on_refusal.OnRefusal.{OnRefusal}
use Rattle.script.specs.declared.on_refusal.OnRefusal.TheVariants.{GoesOn, Stops}
use Rattle.script.specs.declared.fault.Fault.TheVariants.{Line}
use Rattle.script.proofs.ProgressLemmas.{delivers_as, waited_written}
use Rattle.script.proofs.StopsLemmas.{all_blocks}
use Rattle.report.specs.Waiting.{Waits}
use Rattle.script.specs.Turns.{AreBlocksBeside, IsLiveBeside, Turn, first_turns, view_at_last, line_next, lines_end, stopped_at, view_next, of_lines as beside_of_lines, too_much as beside_too_much}
use Rattle.script.specs.declared.viewing.Showing.{Showing}
use Rattle.script.specs.declared.viewing.Showing.TheVariants.{AsTheyCome, Last}

-- ---- errors of results of two types

same_error : {S T : Type 0} (e f : Ended) → IsErrOf {T = S} (Err e) f → IsErrOf {T = T} (Err e) f
same_error e f late = let same : e ≡ f = cc in ap Err same

-- ---- what a run may want

pub may_want : (givens : Givens) (asked : Option Viewing) (script : Lines) → AsksForWorkers givens script → MayWant givens asked script
may_want givens None script asks = asks
may_want givens (Some viewing) script asks = tt

pub has_want : (givens : Givens) (asked : Option Viewing) (script : Lines) → HasViewers asked → MayWant givens asked script
has_want givens None script has = absurd has
has_want givens (Some viewing) script has = tt

-- ---- how a run ends by how it is finished

module _ {W : Type 0} (taken : W → Option (List ℕ)) (faults : W → ℕ) (old new : W) (Asks Views : Type 0) (result : Result Finish Ended) where
  -- early
  pub so_early : (Is : Finish → List ℕ → Type 0) (e : Ended) → result ≡ Err e → Ends {T = Finish} taken faults old new (HoweverFinished Is) Asks Views (Err e) → EndsSo taken faults old new Is Asks Views result
  so_early Is e met early = rw met (record { ends = early; wrote = tt })

  -- or not
  pub so_finished : (Is : Finish → List ℕ → Type 0) (finish : Finish) → result ≡ Ok finish → Writes (Is finish) (taken old) (taken new) → faults new ≡ faults old → EndsSo taken faults old new Is Asks Views result
  so_finished Is finish met wrote sound = rw met (record {
    ends = record {
      delivered = record {
        output = record { whole = wrote.whole; is_whole = record { finish = finish; is = wrote.is_whole }; taken = wrote.taken };
        beginning = tt;
        fault = λ late. absurd cc;
        sound = sound;
      };
      worker = λ late. absurd cc;
      place = λ late. absurd cc;
    };
    wrote = wrote;
  })

-- what was written is so, since what it was said to be is
however : (Is IsWhole : Finish → List ℕ → Type 0) → ((finish : Finish) (bytes : List ℕ) → Is finish bytes → IsWhole finish bytes) → (bytes : List ℕ) → HoweverFinished Is bytes → HoweverFinished IsWhole bytes
however Is IsWhole so bytes p = record { finish = p.finish; is = so p.finish bytes p.is }

wrote_as : (a b : Option (List ℕ)) (Is IsWhole : Finish → List ℕ → Type 0) (result : Result Finish Ended) → ((finish : Finish) (bytes : List ℕ) → Is finish bytes → IsWhole finish bytes) →
    IfOk result (λ finish. Writes (Is finish) a b) → IfOk result (λ finish. Writes (IsWhole finish) a b)
wrote_as a b Is IsWhole (Ok finish) so wrote = record { whole = wrote.whole; is_whole = so finish wrote.whole wrote.is_whole; taken = wrote.taken }
wrote_as a b Is IsWhole (Err e) so wrote = tt

ends_so_as : {W : Type 0} (taken : W → Option (List ℕ)) (faults : W → ℕ) (old new : W) (Asks Views : Type 0) (result : Result Finish Ended) (Is IsWhole : Finish → List ℕ → Type 0) →
    ((finish : Finish) (bytes : List ℕ) → Is finish bytes → IsWhole finish bytes) → EndsSo taken faults old new Is Asks Views result → EndsSo taken faults old new IsWhole Asks Views result
ends_so_as taken faults old new Asks Views result Is IsWhole so e = record {
  ends = record {
    delivered = delivers_as taken faults old new _ _ result (however Is IsWhole so) e.ends.delivered;
    worker = e.ends.worker;
    place = e.ends.place;
  };
  wrote = wrote_as (taken old) (taken new) Is IsWhole result so e.wrote;
}

-- a run that went through writes its tail
module _ {W T : Type 0} (taken : W → Option (List ℕ)) (faults : W → ℕ) (old gone middle new : W) (hash : Cell → ℕ) (givens : Givens) (on : OnRefusal) (asked : Option Viewing) (script : Lines) (turns : List Turn) (desk : Option Editions) (waits : Waits) (tail : Result T Ended) (result : Result Finish Ended)
    (over : GoesOver (taken old) (taken gone) hash givens on asked script turns desk waits Through) (last : Appends (taken gone) (taken middle) over.waiting) (sound : faults middle ≡ faults old)
    (second : Delivers taken faults middle new (IsRest hash givens on asked (reverse script) [] turns Through) tail) (has : IfErr tail (λ _. HasViewers asked)) where
  pub so_tailed : IfOk tail (λ _. result ≡ Ok Through) → IfErr tail (λ e. result ≡ Err e) → EndsSo taken faults old new (AreWritten hash givens on asked script) (MayWant givens asked script) (HasViewers asked) result
  so_tailed ok early = by tail second has ok early where
    upto : (bytes : List ℕ) → TakesUpTo (taken old) (taken middle) (over.front ++ (over.waiting ++ bytes)) bytes
    upto bytes = waited_written (taken middle) over last bytes

    by : (tail : Result T Ended) → Delivers taken faults middle new (IsRest hash givens on asked (reverse script) [] turns Through) tail → IfErr tail (λ _. HasViewers asked) → IfOk tail (λ _. result ≡ Ok Through) → IfErr tail (λ e. result ≡ Err e) →
        EndsSo taken faults old new (AreWritten hash givens on asked script) (MayWant givens asked script) (HasViewers asked) result
    by (Ok x) second has ok early =
        let wrote = second.output in
        so_finished taken faults old new (MayWant givens asked script) (HasViewers asked) result (AreWritten hash givens on asked script) Through ok
        (record {
          whole = over.front ++ (over.waiting ++ wrote.whole);
          is_whole = over.blocks wrote.whole wrote.is_whole;
          taken = subst (Appends (taken old) (taken new)) (sym (upto wrote.whole).whole_is) (Appends-trans (taken old) (taken middle) (taken new) (upto wrote.whole).front wrote.whole (upto wrote.whole).taken wrote.taken);
        })
        (second.sound ∙ sound)
    by (Err e) second has ok early =
        let late = second.beginning in
        so_early taken faults old new (MayWant givens asked script) (HasViewers asked) result (AreWritten hash givens on asked script) e early (record {
          delivered = record {
            output = tt;
            beginning = record {
              whole = over.front ++ (over.waiting ++ late.whole);
              is_whole = record { finish = Through; is = over.blocks late.whole late.is_whole };
              beginning = takes_last (taken old) (taken middle) (taken new) (over.front ++ (over.waiting ++ late.whole)) late.whole (upto late.whole) late.beginning;
            };
            fault = λ writer. let failed = second.fault (same_error e WriteFailed writer) in omega (arith, failed, sound);
            sound = tt;
          };
          worker = λ wanted. has_want givens asked script has;
          place = λ wanted. has;
        })

-- one that stopped writes none
pub so_stopped : {W : Type 0} (taken : W → Option (List ℕ)) (faults : W → ℕ) (old gone new : W) (hash : Cell → ℕ) (givens : Givens) (on : OnRefusal) (asked : Option Viewing) (script : Lines) (turns : List Turn) (desk : Option Editions) (waits : Waits) (result : Result Finish Ended) →
    (over : GoesOver (taken old) (taken gone) hash givens on asked script turns desk waits Stopped) → Appends (taken gone) (taken new) over.waiting → faults new ≡ faults old → result ≡ Ok Stopped →
    EndsSo taken faults old new (AreWritten hash givens on asked script) (MayWant givens asked script) (HasViewers asked) result
so_stopped taken faults old gone new hash givens on asked script turns desk waits result over last sound met =
    let upto = waited_written (taken new) over last [] in
    so_finished taken faults old new (MayWant givens asked script) (HasViewers asked) result (AreWritten hash givens on asked script) Stopped met
    (record {
      whole = over.front ++ (over.waiting ++ []);
      is_whole = over.blocks [] refl;
      taken = subst (Appends (taken old) (taken new)) (sym (upto.whole_is ∙ append-nil upto.front)) upto.taken;
    })
    sound

-- ---- what a run writes as a whole

-- a run that goes on does not stop
never_stops : {hash : Cell → ℕ} {givens : Givens} {viewing : Viewing} {before later : Lines} {turns : List Turn} {finish : Finish} {bytes : List ℕ} → AreBlocksBeside hash givens GoesOn viewing before later turns finish bytes → finish ≡ Stopped → ⊥
never_stops (lines_end is) bad = absurd cc
never_stops (stopped_at is stop) bad = stop
never_stops (line_next bytes rest is goes are) bad = never_stops are bad
never_stops (view_next bytes rest shows are) bad = never_stops are bad
never_stops (view_at_last bytes rest shows are) bad = absurd cc

module _ (hash : Cell → ℕ) (manner : Manner) (rows : ℕ) (parts : List (Vec ℕ Global)) (script : List ℕ) (asked : Option Viewing) where
  counted : length (givens_in manner rows parts).parts ≡ length parts
  counted = length-map parts (λ p. p.items)

  beyond : (script_limit < length script) ⊎ (part_limit < length parts) → IsTooMuch (givens_in manner rows parts) script
  beyond (inl long) = inl long
  beyond (inr many) = inr (omega (arith, many, counted))

  -- a script beyond a limit
  too_much_written : IsTooMuch (givens_in manner rows parts) script → (asked : Option Viewing) (bytes : List ℕ) → bytes ≡ too_much_text manner.form asked → IsWritten hash (givens_in manner rows parts) asked script bytes
  too_much_written much None bytes is = subst (IsOutput hash (givens_in manner rows parts) script) (sym is) (output_too_much much)
  too_much_written much (Some viewing) bytes is = by viewing.showing where
    by : (showing : Showing) → IsShown showing hash (givens_in manner rows parts) viewing script bytes
    by Last = record {
      first = refusal manner.form 0 (Line Limit);
      second = viewers_refused manner.form NoTable;
      is_first = output_too_much much;
      is_second = tail_too_much much;
      joined = is;
    }
    by AsTheyCome = subst (IsLiveBeside hash (givens_in manner rows parts) viewing script) (sym is) (beside_too_much much)

  pub too_much_by_run : (on : OnRefusal) → (script_limit < length script) ⊎ (part_limit < length parts) → (bytes : List ℕ) → bytes ≡ too_much_by manner.form on asked →
      IsRunBy on hash (givens_in manner rows parts) asked script (finish_of_refused on) bytes
  too_much_by_run GoesOn much bytes is = too_much_written (beyond much) asked bytes is
  too_much_by_run Stops much bytes is = subst (IsStrict hash (givens_in manner rows parts) asked script Stopped) (sym is) (strict_too_much (beyond much))

  -- one within them
  all_written : length script ≤ script_limit → length (givens_in manner rows parts).parts ≤ part_limit → (asked : Option Viewing) (finish : Finish) (bytes : List ℕ) →
      AreWritten hash (givens_in manner rows parts) GoesOn asked (lines script) finish bytes → IsRunBy GoesOn hash (givens_in manner rows parts) asked script finish bytes
  all_written short few None Through bytes two = subst (IsOutput hash (givens_in manner rows parts) script) (sym (two.joined ∙ ap (λ t. two.first ++ t) two.is_second ∙ append-nil two.first))
      (output_of_lines short few (all_blocks two.is_first).1)
  all_written short few (Some viewing) Through bytes are = by viewing.showing are where
    by : (showing : Showing) → IsRestIn showing hash (givens_in manner rows parts) GoesOn viewing [] (lines script) (first_turns viewing) Through bytes → IsShown showing hash (givens_in manner rows parts) viewing script bytes
    by Last two = record {
      first = two.first;
      second = two.second;
      is_first = output_of_lines short few (all_blocks two.is_first).1;
      is_second = tail_of_lines short few (rw append-nil at two.is_second);
      joined = two.joined;
    }
    by AsTheyCome are = beside_of_lines short few are
  all_written short few None Stopped bytes two = let bad : Stopped ≡ Through = (all_blocks two.is_first).0 in absurd cc
  all_written short few (Some viewing) Stopped bytes are = by viewing.showing are where
    by : (showing : Showing) → IsRestIn showing hash (givens_in manner rows parts) GoesOn viewing [] (lines script) (first_turns viewing) Stopped bytes → ⊥
    by Last two = let bad : Stopped ≡ Through = (all_blocks two.is_first).0 in absurd cc
    by AsTheyCome are = never_stops are refl

  pub written_by_run : (on : OnRefusal) → length script ≤ script_limit → length parts ≤ part_limit → (finish : Finish) (bytes : List ℕ) →
      AreWritten hash (givens_in manner rows parts) on asked (lines script) finish bytes → IsRunBy on hash (givens_in manner rows parts) asked script finish bytes
  written_by_run GoesOn short few finish bytes two = all_written short (omega (arith, few, counted)) asked finish bytes two
  written_by_run Stops short few finish bytes two = strict_of_lines short (omega (arith, few, counted)) two

  module _ {W : Type 0} (taken : W → Option (List ℕ)) (faults : W → ℕ) (old new : W) (result : Result Finish Ended) (on : OnRefusal) where
    pub ends_too_much : (script_limit < length script) ⊎ (part_limit < length parts) → Ends taken faults old new (λ bytes. bytes ≡ too_much_by manner.form on asked) ⊥ ⊥ result → IfOk result (λ finish. finish ≡ finish_of_refused on) →
        EndsBy on hash taken faults old new (givens_in manner rows parts) asked script result
    ends_too_much much ends finish = record {
      ends = record {
        delivered = delivers_as taken faults old new _ _ result (λ bytes is. record { finish = finish_of_refused on; is = too_much_by_run on much bytes is }) ends.delivered;
        worker = λ late. absurd (ends.worker late);
        place = λ late. absurd (ends.place late);
      };
      wrote = wrote result ends.delivered.output finish;
    } where
      wrote : (r : Result Finish Ended) → OnOk r (Writes (λ bytes. bytes ≡ too_much_by manner.form on asked) (taken old) (taken new)) → IfOk r (λ finish. finish ≡ finish_of_refused on) →
          IfOk r (λ finish. Writes (IsRunBy on hash (givens_in manner rows parts) asked script finish) (taken old) (taken new))
      wrote (Ok finish) w is = rw is (record { whole = w.whole; is_whole = too_much_by_run on much w.whole w.is_whole; taken = w.taken })
      wrote (Err e) w is = tt

    pub ends_within : length script ≤ script_limit → length parts ≤ part_limit → EndsLines on hash taken faults old new (givens_in manner rows parts) asked (lines script) result →
        EndsBy on hash taken faults old new (givens_in manner rows parts) asked script result
    ends_within short few ends = ends_so_as taken faults old new _ _ result _ _ (written_by_run on short few) ends

-- a run that goes on writes what the script does
went_on : (hash : Cell → ℕ) (givens : Givens) (asked : Option Viewing) (script bytes : List ℕ) → HoweverFinished (IsRunBy GoesOn hash givens asked script) bytes → IsWritten hash givens asked script bytes
went_on hash givens asked script bytes p = go p.finish p.is where
  go : (finish : Finish) → IsRunBy GoesOn hash givens asked script finish bytes → IsWritten hash givens asked script bytes
  go Through is = is
  go Stopped is = absurd is

pub ends_going_on : {W : Type 0} (on : OnRefusal) (hash : Cell → ℕ) (taken : W → Option (List ℕ)) (faults : W → ℕ) (old new : W) (givens : Givens) (asked : Option Viewing) (script : List ℕ) (result : Result Finish Ended) → on ≡ GoesOn →
    EndsBy on hash taken faults old new givens asked script result → EndsRun hash taken faults old new givens asked script result
ends_going_on GoesOn hash taken faults old new givens asked script result goes e = record {
  delivered = delivers_as taken faults old new _ _ result (went_on hash givens asked script) e.ends.delivered;
  worker = e.ends.worker;
  place = e.ends.place;
}
ends_going_on Stops hash taken faults old new givens asked script result goes e = absurd cc

-- whoever asks for its end alone
module _ {W S T : Type 0} (taken : W → Option (List ℕ)) (faults : W → ℕ) (old new : W) (IsWhole : List ℕ → Type 0) (Asks Views : Type 0) (result : Result S Ended) where
  pub ends_ok : (x : S) (y : T) → result ≡ Ok x → Ends taken faults old new IsWhole Asks Views result → Ends {T = T} taken faults old new IsWhole Asks Views (Ok y)
  ends_ok x y met e = let ends = rw met at e in record {
    delivered = record { output = ends.delivered.output; beginning = tt; fault = λ late. absurd cc; sound = ends.delivered.sound };
    worker = λ late. absurd cc;
    place = λ late. absurd cc;
  }

  pub ends_err : (why : Ended) → result ≡ Err why → Ends taken faults old new IsWhole Asks Views result → Ends {T = T} taken faults old new IsWhole Asks Views (Err why)
  ends_err why met e = let ends = rw met at e in record {
    delivered = record { output = tt; beginning = ends.delivered.beginning; fault = λ late. ends.delivered.fault (same_error why WriteFailed late); sound = tt };
    worker = λ late. ends.worker (same_error why NoWorker late);
    place = λ late. ends.place (same_error why NotShown late);
  }
