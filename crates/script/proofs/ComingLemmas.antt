-- How viewers show their blocks as they come.
use Rattle.std.proofs.Common.{◌≡◌, ◌∙◌, ℕ, zero, suc, ◌+◌, ◌<◌, ◌≤◌, Option, Err, List, [], ◌∷◌, ◌++◌, inl, inr, length, map, refl, sym, ap, subst, arith, append_assoc, length-append}
use mathlib.Core.List.{IsPrefix}
use Rattle.std.proofs.lemmas.List.{append-nil, map-append, nil_from_length}
use Rattle.std.proofs.lemmas.List.Sums.{sum_by-append, sum_by-cons}
use Rattle.std.specs.List.{AllByRecursion}
use Rattle.board.specs.Editions.{Editions, History, IsNewViewer, Known}
use Rattle.board.specs.Editions as keeper
use Rattle.cells.specs.declared.cell.Cell.{Cell}
use Rattle.report.specs.Onlooking.{Glanced, HasGlanced, Onlooking, OnlookersValue, Shows, TakesOut, onlooking, sent, sent_by}
use Rattle.report.specs.Watching.{IsLastShot, Sight}
use Rattle.report.specs.declared.question.Question.{Question}
use Rattle.script.specs.Coming.{IsLastViewOf, TakesTurn, blocks_left}
use Rattle.script.specs.Desks.{Keeps}
use Rattle.script.specs.Endings.{BeginsToWrite, Delivers}
use Rattle.script.specs.declared.ended.Ended.TheVariants.{WriteFailed}
use Rattle.script.specs.Givens.{Givens}
use Rattle.script.specs.Tails.{Viewing}
use Rattle.script.specs.Turns.{AreBlocksBeside, ShowsLast, ShowsNext, Turn, view_at_last, lines_end, nobody_left, turns_from, view_next}
use Rattle.script.specs.Viewers.{AreLate, AreOnlooking, IsAskedSo, IsGoing, IsOnlooking, IsWaiting, ShowAll, none_came, one_came, turn_of, turns_in, view_block}
use Rattle.script.specs.Output.{Lines}
use Rattle.script.specs.declared.finish.Finish.TheVariants.{Through}
use Rattle.script.specs.declared.manner.Manner.{Manner}
use Rattle.script.specs.declared.on_refusal.OnRefusal.{OnRefusal}
use Rattle.script.proofs.TurnsLemmas.{some_turns}
use Rattle.script.proofs.ViewsLemmas.{all_more, some_view, view_of}

longer : (xs ys : History) → IsPrefix xs ys → length xs ≤ length ys
longer xs ys a = let e : length (xs ++ a.0) ≡ length ys = ap length a.1 in omega (arith, e, length-append xs a.0)

-- ---- how they are sent

-- one more is sent: after those that go where none waits
sent_behind : (o : OnlookersValue) (x : Onlooking) (n : ℕ) → (0 < n → o.waiting ≡ []) → turns_in (sent_by o x n) ≡ turns_in o ++ turn_of x ∷ []
sent_behind o x zero none = ap (map turn_of) (sym (append_assoc o.going o.waiting (x ∷ []))) ∙ map-append turn_of (o.going ++ o.waiting) (x ∷ [])
sent_behind o x (suc n) none =
    let empty = none (omega arith) in
    rw empty (ap (map turn_of) (append-nil (o.going ++ x ∷ [])) ∙ map-append turn_of o.going (x ∷ []) ∙ ap (λ going. map turn_of going ++ turn_of x ∷ []) (sym (append-nil o.going)))

snoc_turns : (viewer shots n : ℕ) → turns_from viewer shots (suc n) ≡ turns_from viewer shots n ++ record { viewer = viewer + n; left = shots; least = 0 } ∷ []
snoc_turns viewer shots zero = ap (λ v. record { viewer = v; left = shots; least = 0 } ∷ []) (omega arith)
snoc_turns viewer shots (suc n) = ap (λ turns. record { viewer = viewer; left = shots; least = 0 } ∷ turns)
    (snoc_turns (viewer + 1) shots n ∙ ap (λ v. turns_from (viewer + 1) shots n ++ record { viewer = v; left = shots; least = 0 } ∷ []) (omega arith))

pub turns_more : (o : OnlookersValue) (viewer : Known) (question : Question) (shots n : ℕ) → (0 < shots → o.waiting ≡ []) → turns_in o ≡ turns_from 1 shots n →
    turns_in (sent o (onlooking (n + 1) viewer question shots)) ≡ turns_from 1 shots (n + 1)
turns_more o viewer question shots n none are =
    let one : n + 1 ≡ suc n = omega arith in
    let next : 1 + n ≡ n + 1 = omega arith in
    sent_behind o (onlooking (n + 1) viewer question shots) shots none ∙ ap (λ turns. turns ++ record { viewer = n + 1; left = shots; least = 0 } ∷ []) are
    ∙ ap (λ v. turns_from 1 shots n ++ record { viewer = v; left = shots; least = 0 } ∷ []) (sym next) ∙ sym (snoc_turns 1 shots n) ∙ ap (turns_from 1 shots) (sym one)

-- those that have reports to make go, so that none waits
waits_not : (o : OnlookersValue) (x : Onlooking) (n shots : ℕ) → n ≡ shots → (0 < shots → o.waiting ≡ []) → 0 < shots → (sent_by o x n).waiting ≡ []
waits_not o x zero shots same none some = absurd (omega (arith, same, some))
waits_not o x (suc n) shots same none some = none some

pub still_none : (o : OnlookersValue) (x : Onlooking) (shots : ℕ) → x.left ≡ shots → (0 < shots → o.waiting ≡ []) → 0 < shots → (sent o x).waiting ≡ []
still_none o x shots same none some = waits_not o x x.left shots same none some

-- who is sent is one of those who look on
onlooking_by : (manner : Manner) (viewing : Viewing) (k : Editions) (o : OnlookersValue) (x : Onlooking) (n : ℕ) → x.left ≡ n → IsOnlooking manner viewing k x → AreOnlooking manner viewing k o → AreOnlooking manner viewing k (sent_by o x n)
onlooking_by manner viewing k o x zero left is are = record { going = are.going; waiting = all_more (IsWaiting manner viewing k) o.waiting x are.waiting (is, left) }
onlooking_by manner viewing k o x (suc n) left is are = record { going = all_more (IsGoing manner viewing k) o.going x are.going (is, omega (arith, left)); waiting = are.waiting }

pub onlooking_more : (manner : Manner) (viewing : Viewing) (k : Editions) (o : OnlookersValue) (x : Onlooking) → IsOnlooking manner viewing k x → AreOnlooking manner viewing k o → AreOnlooking manner viewing k (sent o x)
onlooking_more manner viewing k o x is are = onlooking_by manner viewing k o x x.left refl is are

-- a new viewer is
pub new_onlooker : (manner : Manner) (viewing : Viewing) (k : Editions) (number : ℕ) (viewer : Known) (question : Question) (left : ℕ) → IsNewViewer k viewer → IsAskedSo manner (keeper.schema k) viewing.query question →
    IsOnlooking manner viewing k (onlooking number viewer question left)
new_onlooker manner viewing k number viewer question left new asked = record {
  board = new.board;
  schema = new.schema;
  asked = asked;
  late = omega arith;
  knows = let some = ap length new.begun.is in omega (arith, some);
}

-- ---- one block

-- what is known of one that came back, showed its report and was sent again
module _ (manner : Manner) (viewing : Viewing) (k : Editions) (old mid new : OnlookersValue) (before : Onlooking) (glance : Glanced) (after : Onlooking) (shown : Sight)
    (first : old.going ≡ before ∷ mid.going) (waiting : mid.waiting ≡ old.waiting) (glanced : HasGlanced before glance) (shows : Shows k glance after shown) (are : AreOnlooking manner viewing k old) (next : new ≡ sent mid after) where
  goes : IsGoing manner viewing k before × AllByRecursion (IsGoing manner viewing k) mid.going
  goes = subst (AllByRecursion (IsGoing manner viewing k)) first are.going

  is_after : IsOnlooking manner viewing k after
  is_after = record {
    board = shows.board ∙ glanced.looks.board ∙ goes.0.0.board;
    schema = shows.schema ∙ glanced.looks.schema ∙ goes.0.0.schema;
    asked = subst (IsAskedSo manner (keeper.schema k) viewing.query) (sym (shows.question ∙ glanced.question)) goes.0.0.asked;
    late = omega (arith, shows.least, shows.shot.within);
    knows = shows.knows;
  }

  are_mid : AreOnlooking manner viewing k mid
  are_mid = record { going = goes.1; waiting = subst (AllByRecursion (IsWaiting manner viewing k)) (sym waiting) are.waiting }

  pub still_onlooking : AreOnlooking manner viewing k new
  still_onlooking = subst (AreOnlooking manner viewing k) (sym next) (onlooking_more manner viewing k mid after is_after are_mid)

  one_fewer : before.left ≡ suc after.left
  one_fewer = omega (arith, shows.left, glanced.left, goes.0.1)

  abbrev others : List Turn
  others = map turn_of (mid.going ++ mid.waiting)

  was : turns_in old ≡ record { viewer = before.number; left = suc after.left; least = before.least } ∷ others
  was = ap (λ going. map turn_of (going ++ old.waiting)) first ∙ ap (λ w. turn_of before ∷ map turn_of (mid.going ++ w)) (sym waiting) ∙ ap (λ n. record { viewer = before.number; left = n; least = before.least } ∷ others) one_fewer

  -- it stands among the others again
  record Placed (turns : List Turn) : Type 0 where
    front : List Turn
    back : List Turn
    same : others ≡ front ++ back
    is : turns ≡ front ++ turn_of after ∷ back

  placed_by : (n : ℕ) → Placed (turns_in (sent_by mid after n))
  placed_by zero = record {
    front = others;
    back = [];
    same = sym (append-nil others);
    is = ap (map turn_of) (sym (append_assoc mid.going mid.waiting (after ∷ []))) ∙ map-append turn_of (mid.going ++ mid.waiting) (after ∷ []);
  }
  placed_by (suc n) = record {
    front = map turn_of mid.going;
    back = map turn_of mid.waiting;
    same = map-append turn_of mid.going mid.waiting;
    is = ap (map turn_of) (append_assoc mid.going (after ∷ []) mid.waiting) ∙ map-append turn_of mid.going (after ∷ mid.waiting);
  }

  placed : Placed (turns_in new)
  placed = subst (λ o. Placed (turns_in o)) (sym next) (placed_by after.left)

  pub one_block_fewer : blocks_left (turns_in new) + 1 ≡ blocks_left (turns_in old)
  one_block_fewer =
      let p = placed in
      let weight : Turn → ℕ = λ turn. turn.left + 1 in
      let a : blocks_left (turns_in new) ≡ blocks_left p.front + (after.left + 1 + blocks_left p.back) =
      ap blocks_left p.is ∙ sum_by-append weight p.front (turn_of after ∷ p.back) ∙ ap (λ n. blocks_left p.front + n) (sum_by-cons weight (turn_of after) p.back) in
      let b : blocks_left others ≡ blocks_left p.front + blocks_left p.back = ap blocks_left p.same ∙ sum_by-append weight p.front p.back in
      let c : blocks_left (turns_in old) ≡ suc after.left + 1 + blocks_left others =
      ap blocks_left was ∙ sum_by-cons weight (record { viewer = before.number; left = suc after.left; least = before.least }) others in
      omega (arith, a, b, c)

  pub shows_next : (givens : Givens) (lines : Lines) (text : List ℕ) → givens.manner ≡ manner → Keeps givens lines k → text ≡ view_block manner.form after.number shown → ShowsNext givens viewing lines (turns_in old) (turns_in new) text
  shows_next givens lines text manner_is keeps is =
      let p = placed in
      let named : after.number ≡ before.number = shows.number ∙ glanced.number in
      let grown = longer before.viewer.history glance.onlooker.viewer.history glanced.looks.seen in
      record {
        viewer = before.number;
        left = after.left;
        least = before.least;
        number = shown.edition;
        earlier = [];
        others = others;
        front = p.front;
        back = p.back;
        was = was;
        same = p.same;
        is = p.is ∙ ap (λ turn. p.front ++ turn ∷ p.back) (ap (λ v. record { viewer = v; left = after.left; least = after.least }) named ∙ ap (λ n. record { viewer = before.number; left = after.left; least = n }) shows.least);
        view = record {
          table = keeper.schema k;
          declared = keeps.schema;
          late = shows.shot.late before.least (omega (arith, goes.0.0.knows, grown, glanced.long)) goes.0.0.late;
          view = rw (manner_is, is, named)
              (view_of manner givens lines k viewing.query before.question goes.0.0.asked keeps.history before.number shown (rw glanced.question at shows.shot.is));
        };
      }

-- the last block of one that waits
pub last_of : (manner : Manner) (viewing : Viewing) (k : Editions) (onlooker : Onlooking) (shot : Sight) (givens : Givens) (lines : Lines) (text : List ℕ) → givens.manner ≡ manner → IsWaiting manner viewing k onlooker → IsLastShot k onlooker.question shot →
    Keeps givens lines k → text ≡ view_block manner.form onlooker.number shot → IsLastViewOf givens viewing lines onlooker text
last_of manner viewing k onlooker shot givens lines text manner_is waits last keeps is = record {
  table = keeper.schema k;
  declared = keeps.schema;
  late = omega (arith, waits.0.late, keeps.edition);
  view = rw (manner_is, is, ← keeps.edition, ← last.number) (view_of manner givens lines k viewing.query onlooker.question waits.0.asked keeps.history onlooker.number shot last.is);
}

-- where none goes, the first of those that wait takes its last turn
module _ (manner : Manner) (viewing : Viewing) (k : Editions) (old new : OnlookersValue) (onlooker : Onlooking) (none : old.going ≡ []) (takes : TakesOut old new onlooker) (are : AreOnlooking manner viewing k old) where
  waits : IsWaiting manner viewing k onlooker × AllByRecursion (IsWaiting manner viewing k) new.waiting
  waits = subst (AllByRecursion (IsWaiting manner viewing k)) takes.first are.waiting

  pub is_waiting : IsWaiting manner viewing k onlooker
  is_waiting = waits.0

  pub left_onlooking : AreOnlooking manner viewing k new
  left_onlooking = record { going = subst (AllByRecursion (IsGoing manner viewing k)) (sym takes.going) are.going; waiting = waits.1 }

  was_last : turns_in old ≡ record { viewer = onlooker.number; left = 0; least = onlooker.least } ∷ map turn_of new.waiting
  was_last = ap (λ going. map turn_of (going ++ old.waiting)) none ∙ ap (map turn_of) takes.first ∙ ap (λ n. record { viewer = onlooker.number; left = n; least = onlooker.least } ∷ map turn_of new.waiting) waits.0.1

  is_last : turns_in new ≡ map turn_of new.waiting
  is_last = ap (λ going. map turn_of (going ++ new.waiting)) (takes.going ∙ none)

  pub one_viewer_fewer : blocks_left (turns_in new) + 1 ≡ blocks_left (turns_in old)
  one_viewer_fewer =
      let a : blocks_left (turns_in old) ≡ 1 + blocks_left (map turn_of new.waiting) =
      ap blocks_left was_last ∙ sum_by-cons (λ turn. turn.left + 1) (record { viewer = onlooker.number; left = 0; least = onlooker.least }) (map turn_of new.waiting) in
      let b = ap blocks_left is_last in
      omega (arith, a, b)

  pub shows_last : (givens : Givens) (lines : Lines) (text : List ℕ) → IsLastViewOf givens viewing lines onlooker text → ShowsLast givens viewing lines (turns_in old) (turns_in new) text
  shows_last givens lines text view = record {
    viewer = onlooker.number;
    least = onlooker.least;
    earlier = [];
    others = map turn_of new.waiting;
    was = was_last;
    is = is_last;
    view = view;
  }

pub no_going : (o : OnlookersValue) (count : ℕ) → count ≡ length o.going → count ≤ 0 → o.going ≡ []
no_going o count is none = nil_from_length o.going (omega (arith, is, none))

-- nobody is left
pub no_turns : (o : OnlookersValue) → o.going ≡ [] → o.waiting ≡ [] → turns_in o ≡ []
no_turns o none nobody_waits = ap (λ going. map turn_of (going ++ o.waiting)) none ∙ ap (map turn_of) nobody_waits

-- ---- several blocks

pub all_then : {givens : Givens} {viewing : Viewing} {lines : Lines} {old middle : List Turn} {bytes : List ℕ} (new : List Turn) (block : List ℕ) → ShowAll givens viewing lines old middle bytes → ShowsNext givens viewing lines middle new block →
    ShowAll givens viewing lines old new (bytes ++ block)
all_then {givens = givens} {viewing = viewing} {lines = lines} {old = old} new block none_came next = subst (ShowAll givens viewing lines old new) (append-nil block) (one_came block [] next none_came)
all_then {givens = givens} {viewing = viewing} {lines = lines} {old = old} new block (one_came bytes rest first more) next =
    subst (ShowAll givens viewing lines old new) (sym (append_assoc bytes rest block)) (one_came bytes (rest ++ block) first (all_then new block more next))

-- ---- the blocks that are still to come

late_turns : (manner : Manner) (viewing : Viewing) (k : Editions) (P : Onlooking → Type 0) (all : List Onlooking) → AllByRecursion (λ o. IsOnlooking manner viewing k o × P o) all → AreLate (keeper.edition k) (map turn_of all)
late_turns manner viewing k P [] are = tt
late_turns manner viewing k P (o ∷ more) (is, are) = (is.0.late, late_turns manner viewing k P more are)

both_late : (last : ℕ) (xs ys : List Turn) → AreLate last xs → AreLate last ys → AreLate last (xs ++ ys)
both_late last [] ys none late = late
both_late last (x ∷ xs) ys (is, late) more = (is, both_late last xs ys late more)

pub onlookers_late : (manner : Manner) (viewing : Viewing) (k : Editions) (o : OnlookersValue) → AreOnlooking manner viewing k o → AreLate (keeper.edition k) (turns_in o)
onlookers_late manner viewing k o are = subst (AreLate (keeper.edition k)) (sym (map-append turn_of o.going o.waiting))
    (both_late (keeper.edition k) (map turn_of o.going) (map turn_of o.waiting) (late_turns manner viewing k (λ x. 0 < x.left) o.going are.going) (late_turns manner viewing k (λ x. x.left ≡ 0) o.waiting are.waiting))

-- blocks that they might have
module _ (manner : Manner) (viewing : Viewing) (k : Editions) (hash : Cell → ℕ) (givens : Givens) (on : OnRefusal) (lines : Lines) (manner_is : givens.manner ≡ manner) (keeps : Keeps givens lines k) where
  some_by : (question : Question) (turns : List Turn) → IsAskedSo manner (keeper.schema k) viewing.query question → AreLate (keeper.edition k) turns → (bytes : List ℕ) × AreBlocksBeside hash givens on viewing lines [] turns Through bytes
  some_by question turns asked late =
      some_turns hash givens on viewing lines (keeper.schema k) keeps.schema (some_view givens.manner givens lines (keeper.schema k) viewing asked.plan asked.means) turns (subst (λ n. AreLate n turns) keeps.edition late)

  some_of : (going waiting : List Onlooking) → AllByRecursion (IsGoing manner viewing k) going → AllByRecursion (IsWaiting manner viewing k) waiting → AreLate (keeper.edition k) (map turn_of (going ++ waiting)) →
      (bytes : List ℕ) × AreBlocksBeside hash givens on viewing lines [] (map turn_of (going ++ waiting)) Through bytes
  some_of [] [] go wait late = ([], lines_end nobody_left)
  some_of [] (o ∷ more) go (is, wait) late = some_by o.question (map turn_of (o ∷ more)) is.0.asked late
  some_of (o ∷ more) waiting (is, go) wait late = some_by o.question (map turn_of (o ∷ (more ++ waiting))) is.0.asked late

  pub some_left : (o : OnlookersValue) → AreOnlooking manner viewing k o → (bytes : List ℕ) × AreBlocksBeside hash givens on viewing lines [] (turns_in o) Through bytes
  some_left o are = some_of o.going o.waiting are.going are.waiting (onlookers_late manner viewing k o are)

module _ (hash : Cell → ℕ) (givens : Givens) (on : OnRefusal) (viewing : Viewing) (lines : Lines) (left : List Turn) where
  -- a turn comes first
  pub after_turn : (after : List Turn) (text : List ℕ) → TakesTurn givens viewing lines left after text → (rest : List ℕ) → AreBlocksBeside hash givens on viewing lines [] after Through rest →
      AreBlocksBeside hash givens on viewing lines [] left Through (text ++ rest)
  after_turn after text turn rest are = elim turn [ inl next ↦ view_next text rest next are | inr last ↦ view_at_last text rest last are ]

  -- nobody is left
  pub no_blocks : left ≡ [] → AreBlocksBeside hash givens on viewing lines [] left Through []
  no_blocks none = rw none (lines_end nobody_left)

-- the writer failed
pub writer_failed : {W T : Type 0} (taken : W → Option (List ℕ)) (faults : W → ℕ) (old middle new : W) (IsWhole : List ℕ → Type 0) → BeginsToWrite IsWhole (taken old) (taken new) → faults new ≡ faults middle + 1 → faults middle ≡ faults old →
    Delivers {T = T} taken faults old new IsWhole (Err WriteFailed)
writer_failed taken faults old middle new IsWhole begins failed sound = record {
  output = tt;
  beginning = begins;
  fault = λ late. omega (arith, failed, sound);
  sound = tt;
}
