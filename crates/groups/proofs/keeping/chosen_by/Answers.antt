use Rattle.std.proofs.Common.{◌≡◌, ◌<◌, List, true, ap, ap₂, length, map, subst, sym, ◌∙◌}
use Rattle.std.proofs.lemmas.List.{length-map}
use Rattle.std.specs.Prelude.{Bool, ℕ}
use Rattle.cells.specs.declared.cell.Cell.{Cell}
use Rattle.std.specs.List.{AllByRecursion}
use Rattle.columns.specs.Columns.{HaveAll, has}
use Rattle.groups.specs.Keeping.{chosen, truth_for}
use Rattle.groups.specs.Numbered.{AreNumbered, NumberAll, picked_rows}
use Rattle.groups.proofs.ColumnarLemmas.{number_all}
use Rattle.groups.proofs.KeepingLemmas.{kept_by}
use Rattle.groups.proofs.NeededLemmas.{all_different}
use Rattle.groups.proofs.NumberedLemmas.{rows_counted}
use Rattle.query.specs.Names.{leaves_of}
use Rattle.groups.proofs.keeping.chosen_by.Goals as goal

pub asked_of_each-requires-clause-there : goal.asked_of_each-requires-clause-there
asked_of_each-requires-clause-there c =
    subst (λ l. HaveAll l c.args.columns.now) (sym (c.as_slice-then-are_many.ensures.value ∙ c.in_ok-named.ensures))
    (all_different (λ index. has c.args.columns.now index ≡ true) (leaves_of c.args.predicate.now) c.requires.there)

pub groups_of-requires-clause-there : goal.groups_of-requires-clause-there
groups_of-requires-clause-there c =
    subst (λ l. HaveAll l c.args.columns.now) (sym (c.as_slice-3.ensures.value ∙ c.in_ok-named.ensures))
    (all_different (λ index. has c.args.columns.now index ≡ true) (leaves_of c.args.predicate.now) c.requires.there)

pub chosen-requires-clause-one : goal.chosen-requires-clause-one
chosen-requires-clause-one c =
    let rows = c.requires.rows.rows in
    let places = c.args.places.now in
    let all : NumberAll (length places) c.in_ok-groups.groups.numbers.items c.in_ok-groups.groups.tuples.items =
    number_all c.as_slice-3.result.now (picked_rows rows places) c.in_ok-groups.groups.numbers.items c.in_ok-groups.groups.tuples.items (length places) (rows_counted rows places)
    (c.in_ok-groups.ensures rows c.requires.rows.held) in
    ap (λ l. length l) c.as_slice-6.ensures.value ∙ all.counted

pub chosen-requires-clause-within : goal.chosen-requires-clause-within
chosen-requires-clause-within c =
    let rows = c.requires.rows.rows in
    let places = c.args.places.now in
    let tuples = c.in_ok-groups.groups.tuples.items in
    let all : NumberAll (length places) c.in_ok-groups.groups.numbers.items tuples =
    number_all c.as_slice-3.result.now (picked_rows rows places) c.in_ok-groups.groups.numbers.items tuples (length places) (rows_counted rows places) (c.in_ok-groups.ensures rows c.requires.rows.held) in
    let long : length c.as_slice-7.result.now ≡ length tuples =
    ap (λ l. length l) (c.as_slice-7.ensures.value ∙ c.in_ok-truths.ensures) ∙ length-map c.as_slice-5.result.now (truth_for c.args.predicate.now c.as_slice-4.result.now c.in_ok-width.width) ∙
    ap (λ l. length l) c.as_slice-5.ensures.value in
    subst (λ n. AllByRecursion (λ k. k < n) c.as_slice-6.result.now) (sym long) (subst (AllByRecursion (λ k. k < length tuples)) (sym c.as_slice-6.ensures.value) all.within)

pub returns : goal.returns
returns c = λ all held.
    let named = c.in_ok-named.named.items in
    let places = c.args.places.now in
    let numbers = c.in_ok-groups.groups.numbers.items in
    let tuples = c.in_ok-groups.groups.tuples.items in
    let width = c.in_ok-width.width in
    let now : AreNumbered named (picked_rows all places) numbers tuples =
    subst (λ l. AreNumbered l (picked_rows all places) numbers tuples) c.as_slice-3.ensures.value (c.in_ok-groups.ensures all held) in
    let below : AllByRecursion (λ k. k < width) named = subst (AllByRecursion (λ k. k < width)) c.as_slice.ensures.value c.in_ok-width.ensures in
    kept_by c.truth_by_columns.ensures c.args.predicate.now named width all places numbers tuples c.in_ok-kept.kept.items c.in_ok-named.ensures below now
    (c.in_ok-kept.ensures ∙
    ap₂ (λ (marks : List Bool) (ns : List ℕ). chosen marks ns places) (c.as_slice-7.ensures.value ∙ c.in_ok-truths.ensures ∙
    ap₂ (λ (l : List ℕ) (ts : List (List Cell)). map (truth_for c.args.predicate.now l width) ts) c.as_slice-4.ensures.value c.as_slice-5.ensures.value) c.as_slice-6.ensures.value)
