use Rattle.std.proofs.Common.{ap, arith, subst, sym, true, false, ◌∙◌}
use Rattle.std.proofs.lemmas.List.{append-nil, take_all}
use Rattle.groups.specs.Keeping.{KeptBy}
use Rattle.groups.proofs.KeepingLemmas.{asked_next}
use Rattle.groups.proofs.asking.asked_of_each.Goals.{then-branch+in_ok-push, else-branch}
use Rattle.groups.proofs.asking.asked_of_each.Goals as goal

pub loop-place-preserved : goal.loop-place-preserved
loop-place-preserved c = elim c.if-branch.branch [
  | then-branch+in_ok-push w ↦ λ all held.
      asked_next c.truth_by_columns.ensures c.args.predicate.now c.args.named.now c.args.width all c.args.places.now c.loop-place.kept.items c.if-branch.kept.items c.loop-place.place-index
      c.as_slice.result.now c.put_tuple.new.tuple.items true c.requires.named c.requires.width c.loop-place-test.true (c.loop-place.invariant all held) c.as_slice.ensures.value
      (c.in_ok-put_tuple.ensures all held) (sym w.if-branch.true ∙ c.in_ok-is_true_for.ensures) (ap (λ v. v.items) w.kept-is ∙ w.in_ok-push.ensures.items)
  | else-branch w ↦ λ all held.
      asked_next c.truth_by_columns.ensures c.args.predicate.now c.args.named.now c.args.width all c.args.places.now c.loop-place.kept.items c.if-branch.kept.items c.loop-place.place-index
      c.as_slice.result.now c.put_tuple.new.tuple.items false c.requires.named c.requires.width c.loop-place-test.true (c.loop-place.invariant all held) c.as_slice.ensures.value
      (c.in_ok-put_tuple.ensures all held) (sym w.if-branch.false ∙ c.in_ok-is_true_for.ensures) (ap (λ v. v.items) w.kept-is ∙ sym (append-nil c.loop-place.kept.items))
]

pub returns : goal.returns
returns c = λ all held.
    subst (λ l. KeptBy c.args.predicate.now all l c.loop-place.kept.items)
    (take_all c.loop-place.place-index c.args.places.now (omega (arith, c.loop-place-test.false, c.loop-place.auto.place-index-end))) (c.loop-place.invariant all held)
