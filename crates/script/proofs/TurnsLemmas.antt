-- What a run has still to write, line after line and block after block.
use Rattle.std.proofs.Common.{◌≡◌, ◌∙◌, ◌⊎◌, ℕ, zero, suc, ◌+◌, ◌≤◌, Bool, true, false, cond, Option, Some, None, List, [], ◌∷◌, ◌++◌, inl, inr, refl, sym, ap, subst, arith, append_assoc}
use Rattle.std.proofs.lemmas.List.{append-nil}
use Rattle.cells.specs.Values.{Table}
use Rattle.cells.specs.declared.cell.Cell.{Cell}
use Rattle.script.specs.Givens.{Givens}
use Rattle.script.specs.Output.{IsAnswer, IsBlock, Lines, declared, deed_behind, edition, editions, is_publish}
use Rattle.script.specs.Stops.{IsRefusedLine, StopsAfter, last_line, line_first, no_line}
use Rattle.script.specs.Tails.{IsView, Viewing}
use Rattle.script.specs.Turns.{AreBlocksBeside, Turn, view_at_last, line_next, lines_end, no_table, nobody_left, refused_query, stopped_at, turns_from, view_next}
use Rattle.script.specs.Viewers.{AreLate, IsRest, IsRestIn, IsRestOfLines, MayShow, MayShowIn, ShowAll, none_came, one_came}
use Rattle.script.specs.declared.finish.Finish.{Finish}
use Rattle.script.specs.declared.finish.Finish.TheVariants.{Stopped, Through}
use Rattle.script.specs.declared.on_refusal.OnRefusal.{OnRefusal}
use Rattle.script.specs.declared.viewing.Showing.{Showing}
use Rattle.script.specs.declared.viewing.Showing.TheVariants.{AsTheyCome, Last}
use Rattle.script.proofs.BlocksLemmas.{reversed_onto, some_answer}
use Rattle.script.proofs.SaysLemmas.{EachAnswered, OneAnswer}
use Rattle.script.proofs.StopsLemmas.{stops_or_goes, told_line}
use Rattle.script.proofs.ViewsLemmas.{some_shown, some_tail, some_view}

-- ---- one line more

module _ (hash : Cell → ℕ) (givens : Givens) (on : OnRefusal) where
  -- a line's block comes next
  line_of_lines : (asked : Option Viewing) (before later : Lines) (line : List ℕ) (finish : Finish) (bytes rest : List ℕ) → IsBlock hash givens before line bytes →
      (StopsAfter on (IsRefusedLine givens before line) → ⊥) → IsRestOfLines hash givens on asked (line ∷ before) later finish rest → IsRestOfLines hash givens on asked before (line ∷ later) finish (bytes ++ rest)
  line_of_lines asked before later line finish bytes rest is goes two = record {
    first = bytes ++ two.first;
    second = two.second;
    is_first = line_first bytes two.first is goes two.is_first;
    is_second = rw (← reversed_onto line later before) two.is_second;
    joined = ap (λ t. bytes ++ t) two.joined ∙ sym (append_assoc bytes two.first two.second);
  }

  rest_line_in : (showing : Showing) (viewing : Viewing) (before later : Lines) (line : List ℕ) (turns : List Turn) (finish : Finish) (bytes rest : List ℕ) → IsBlock hash givens before line bytes →
      (StopsAfter on (IsRefusedLine givens before line) → ⊥) → IsRestIn showing hash givens on viewing (line ∷ before) later turns finish rest → IsRestIn showing hash givens on viewing before (line ∷ later) turns finish (bytes ++ rest)
  rest_line_in Last viewing before later line turns finish bytes rest is goes more = line_of_lines (Some viewing) before later line finish bytes rest is goes more
  rest_line_in AsTheyCome viewing before later line turns finish bytes rest is goes more = line_next bytes rest is goes more

  pub rest_line : (asked : Option Viewing) (before later : Lines) (line : List ℕ) (turns : List Turn) (finish : Finish) (bytes rest : List ℕ) → IsBlock hash givens before line bytes →
      (StopsAfter on (IsRefusedLine givens before line) → ⊥) → IsRest hash givens on asked (line ∷ before) later turns finish rest → IsRest hash givens on asked before (line ∷ later) turns finish (bytes ++ rest)
  rest_line None before later line turns finish bytes rest is goes more = line_of_lines None before later line finish bytes rest is goes more
  rest_line (Some viewing) before later line turns finish bytes rest is goes more = rest_line_in viewing.showing viewing before later line turns finish bytes rest is goes more

  -- or it is the last one
  stop_of_lines : (asked : Option Viewing) (before later : Lines) (line bytes : List ℕ) → IsBlock hash givens before line bytes → StopsAfter on (IsRefusedLine givens before line) →
      IsRestOfLines hash givens on asked before (line ∷ later) Stopped bytes
  stop_of_lines asked before later line bytes is stop = record {
    first = bytes;
    second = [];
    is_first = last_line is stop;
    is_second = refl;
    joined = sym (append-nil bytes);
  }

  rest_stop_in : (showing : Showing) (viewing : Viewing) (before later : Lines) (line : List ℕ) (turns : List Turn) (bytes : List ℕ) → IsBlock hash givens before line bytes → StopsAfter on (IsRefusedLine givens before line) →
      IsRestIn showing hash givens on viewing before (line ∷ later) turns Stopped bytes
  rest_stop_in Last viewing before later line turns bytes is stop = stop_of_lines (Some viewing) before later line bytes is stop
  rest_stop_in AsTheyCome viewing before later line turns bytes is stop = stopped_at is stop

  pub rest_stop : (asked : Option Viewing) (before later : Lines) (line : List ℕ) (turns : List Turn) (bytes : List ℕ) → IsBlock hash givens before line bytes → StopsAfter on (IsRefusedLine givens before line) →
      IsRest hash givens on asked before (line ∷ later) turns Stopped bytes
  rest_stop None before later line turns bytes is stop = stop_of_lines None before later line bytes is stop
  rest_stop (Some viewing) before later line turns bytes is stop = rest_stop_in viewing.showing viewing before later line turns bytes is stop

  -- ---- blocks of viewers come next

  all_shown : (viewing : Viewing) (before later : Lines) (finish : Finish) (rest : List ℕ) {old new : List Turn} {bytes : List ℕ} → ShowAll givens viewing before old new bytes →
      AreBlocksBeside hash givens on viewing before later new finish rest → AreBlocksBeside hash givens on viewing before later old finish (bytes ++ rest)
  all_shown viewing before later finish rest none_came more = more
  all_shown viewing before later finish rest {old = old} (one_came bytes others first shown) more =
      subst (AreBlocksBeside hash givens on viewing before later old finish) (sym (append_assoc bytes others rest)) (view_next bytes (others ++ rest) first (all_shown viewing before later finish rest shown more))

  shown_in : (showing : Showing) (viewing : Viewing) (before later : Lines) (old new : List Turn) (finish : Finish) (bytes rest : List ℕ) → MayShowIn showing givens viewing before old new bytes →
      IsRestIn showing hash givens on viewing before later new finish rest → IsRestIn showing hash givens on viewing before later old finish (bytes ++ rest)
  shown_in Last viewing before later old new finish bytes rest (same, none) more = subst (λ bs. IsRestOfLines hash givens on (Some viewing) before later finish (bs ++ rest)) (sym none) more
  shown_in AsTheyCome viewing before later old new finish bytes rest shown more = all_shown viewing before later finish rest shown more

  pub rest_shown : (asked : Option Viewing) (before later : Lines) (old new : List Turn) (finish : Finish) (bytes rest : List ℕ) → MayShow givens asked before old new bytes →
      IsRest hash givens on asked before later new finish rest → IsRest hash givens on asked before later old finish (bytes ++ rest)
  rest_shown None before later old new finish bytes rest (same, none) more = subst (λ bs. IsRestOfLines hash givens on None before later finish (bs ++ rest)) (sym none) more
  rest_shown (Some viewing) before later old new finish bytes rest shown more = shown_in viewing.showing viewing before later old new finish bytes rest shown more

-- ---- any lines and viewers have something to write

grown : (b : Bool) (n : ℕ) → n ≤ cond b (n + 1) n
grown true n = omega arith
grown false n = omega arith

pub edition_grows : (givens : Givens) (before : Lines) (line : List ℕ) → edition givens before ≤ edition givens (line ∷ before)
edition_grows givens before line = grown (is_publish (deed_behind givens before line)) (edition givens before)

pub later_still : (last more : ℕ) (turns : List Turn) → last ≤ more → AreLate last turns → AreLate more turns
later_still last more [] grows late = tt
later_still last more (turn ∷ turns) grows late = (omega (arith, late.0, grows), later_still last more turns grows late.1)

pub first_late : (last viewer shots count : ℕ) → AreLate last (turns_from viewer shots count)
first_late last viewer shots zero = tt
first_late last viewer shots (suc count) = (omega arith, first_late last (viewer + 1) shots count)

-- viewers that are left have blocks on the last edition
module _ (hash : Cell → ℕ) (givens : Givens) (on : OnRefusal) (viewing : Viewing) (before : Lines) (t : Table) (is : declared givens before ≡ Some t)
    (some : (viewer : ℕ) → (bytes : List ℕ) × IsView givens.manner t (editions givens before) viewing.query viewer (edition givens before) bytes) where
  one_viewer : (viewer left least : ℕ) (others : List Turn) → least ≤ edition givens before → (bytes : List ℕ) × AreBlocksBeside hash givens on viewing before [] others Through bytes →
      (bytes : List ℕ) × AreBlocksBeside hash givens on viewing before [] (record { viewer = viewer; left = left; least = least } ∷ others) Through bytes
  one_viewer viewer zero least others late more =
      let (bytes, view) = some viewer in
      let (rest, are) = more in
      (bytes ++ rest, view_at_last bytes rest (record { viewer = viewer; least = least; earlier = []; others = others; was = refl; is = refl; view = record { table = t; declared = is; late = late; view = view } }) are)
  one_viewer viewer (suc left) least others late more =
      let (bytes, view) = some viewer in
      let (rest, are) = one_viewer viewer left (edition givens before) others (omega arith) more in (
        bytes ++ rest,
        view_next bytes rest (record {
          viewer = viewer;
          left = left;
          least = least;
          number = edition givens before;
          earlier = [];
          others = others;
          front = [];
          back = others;
          was = refl;
          same = refl;
          is = refl;
          view = record { table = t; declared = is; late = late; view = view };
        }) are,
      )

  pub some_turns : (turns : List Turn) → AreLate (edition givens before) turns → (bytes : List ℕ) × AreBlocksBeside hash givens on viewing before [] turns Through bytes
  some_turns [] late = ([], lines_end nobody_left)
  some_turns (turn ∷ turns) late = one_viewer turn.viewer turn.left turn.least turns late.0 (some_turns turns late.1)

module _ (each : EachAnswered) (hash : Cell → ℕ) (givens : Givens) (on : OnRefusal) where
  some_after : (viewing : Viewing) (before : Lines) (turns : List Turn) → AreLate (edition givens before) turns → (bytes : List ℕ) × AreBlocksBeside hash givens on viewing before [] turns Through bytes
  some_after viewing before turns late =
      some_shown each givens before viewing (λ bytes. AreBlocksBeside hash givens on viewing before [] turns Through bytes) (λ is. lines_end (no_table is)) (λ t fault is says. lines_end (refused_query is says))
      (λ t plan is means. some_turns hash givens on viewing before t is (some_view givens.manner givens before t viewing plan means) turns late)

  some_end_in : (showing : Showing) (viewing : Viewing) (before : Lines) (turns : List Turn) → AreLate (edition givens before) turns → (bytes : List ℕ) × IsRestIn showing hash givens on viewing before [] turns Through bytes
  some_end_in Last viewing before turns late =
      let (bytes, is) = some_tail each givens before viewing in
      (bytes, record { first = []; second = bytes; is_first = no_line; is_second = is; joined = refl })
  some_end_in AsTheyCome viewing before turns late = some_after viewing before turns late

  pub some_end : (asked : Option Viewing) (before : Lines) (turns : List Turn) → AreLate (edition givens before) turns → (bytes : List ℕ) × IsRest hash givens on asked before [] turns Through bytes
  some_end None before turns late = ([], record { first = []; second = []; is_first = no_line; is_second = refl; joined = refl })
  some_end (Some viewing) before turns late = some_end_in viewing.showing viewing before turns late

  pub record SomeRest (asked : Option Viewing) (before later : Lines) (turns : List Turn) : Type 0 where
    pub finish : Finish
    pub bytes : List ℕ
    pub are : IsRest hash givens on asked before later turns finish bytes

  module _ (law : OneAnswer) (asked : Option Viewing) (turns : List Turn) where
    one_more : (before later : Lines) (line bytes : List ℕ) → IsAnswer hash givens before (deed_behind givens before line) bytes →
        StopsAfter on (IsRefusedLine givens before line) ⊎ (StopsAfter on (IsRefusedLine givens before line) → ⊥) → SomeRest asked (line ∷ before) later turns → SomeRest asked before (line ∷ later) turns
    one_more before later line bytes is (inl stop) some = record { finish = Stopped; bytes = bytes; are = rest_stop hash givens on asked before later line turns bytes is stop }
    one_more before later line bytes is (inr goes) some = record { finish = some.finish; bytes = bytes ++ some.bytes; are = rest_line hash givens on asked before later line turns some.finish bytes some.bytes is goes some.are }

    pub some_rest : (later before : Lines) → AreLate (edition givens before) turns → SomeRest asked before later turns
    some_rest [] before late = let (bytes, are) = some_end asked before turns late in record { finish = Through; bytes = bytes; are = are }
    some_rest (line ∷ later) before late =
        let (bytes, is) = some_answer each hash givens before (deed_behind givens before line) in
        let told = told_line law hash givens before (deed_behind givens before line) bytes is in
        one_more before later line bytes is (stops_or_goes on told.refused (IsRefusedLine givens before line) told.tells)
        (some_rest later (line ∷ before) (later_still (edition givens before) (edition givens (line ∷ before)) turns (edition_grows givens before line) late))
