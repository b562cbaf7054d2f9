use Rattle.std.proofs.Common.{◌≡◌, [], ◌∷◌, ◌++◌, ◌∙◌, ap, arith, sym}
use Rattle.std.specs.Option.{option_to_list}
use Rattle.std.specs.Vec.Iter.{into_iter_items}
use Rattle.std.proofs.lemmas.List.{append-nil, nil_from_length}
use Rattle.groups.specs.Finishing.{row_by, rows_by}
use Rattle.groups.specs.Groups.{shown}
use Rattle.groups.proofs.FinishLemmas.{rows_next}
use Rattle.groups.proofs.finishing.add_rows.Goals as goal
use Rattle.trie.specs.Holding.{lent}

pub loop-group-init : goal.loop-group-init
loop-group-init g c =
    ap (λ it. c.args.rows.now.items ++ rows_by c.args.set.now c.args.plan.now (lent (into_iter_items it))) c.into_iter-group-iterator.ensures.into_iter_gives

-- where HAVING drops the group, the rows stay
pub loop-group-preserved-in_default : goal.loop-group-preserved-in_default
loop-group-preserved-in_default g c =
    let left = into_iter_items c.next.new.self in
    let all = c.args.rows.now.items ++ rows_by c.args.set.now c.args.plan.now (lent (into_iter_items c.args.groups)) in
    let now = sym (ap (λ it. c.loop-group.rows.items ++ rows_by c.args.set.now c.args.plan.now (lent it)) c.in-Some.ensures.steps.0) ∙ c.loop-group.invariant in
    rows_next c.args.set.now c.args.plan.now c.in-Some.group left c.loop-group.rows.items [] c.loop-group.rows.items all now
    (sym (ap option_to_list c.in_default.is) ∙ c.in_ok-made.ensures ∙ ap (λ a. shown c.args.plan.now (row_by c.args.set.now c.in-Some.group.0.now c.args.plan.now.items a)) c.as_slice-accumulators.ensures)
    (sym (append-nil c.loop-group.rows.items))

pub loop-group-preserved : goal.loop-group-preserved
loop-group-preserved g c =
    let left = into_iter_items c.next.new.self in
    let all = c.args.rows.now.items ++ rows_by c.args.set.now c.args.plan.now (lent (into_iter_items c.args.groups)) in
    let now = sym (ap (λ it. c.loop-group.rows.items ++ rows_by c.args.set.now c.args.plan.now (lent it)) c.in-Some.ensures.steps.0) ∙ c.loop-group.invariant in
    rows_next c.args.set.now c.args.plan.now c.in-Some.group left c.loop-group.rows.items (c.in-Some-made.row ∷ []) c.push.new.self.items all now
    (sym (ap option_to_list c.in-Some-made.is) ∙ c.in_ok-made.ensures ∙ ap (λ a. shown c.args.plan.now (row_by c.args.set.now c.in-Some.group.0.now c.args.plan.now.items a)) c.as_slice-accumulators.ensures)
    c.in_ok-push.ensures.items

pub returns : goal.returns
returns g c =
    let iterator = c.loop-group.group-iterator in
    let none : into_iter_items iterator ≡ [] = nil_from_length (into_iter_items iterator) (omega (arith, iterator.rest.ok, c.in-None.ensures.steps.0)) in
    sym (append-nil c.loop-group.rows.items) ∙ sym (ap (λ it. c.loop-group.rows.items ++ rows_by c.args.set.now c.args.plan.now (lent it)) none) ∙ c.loop-group.invariant
