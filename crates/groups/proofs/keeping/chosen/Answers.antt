use Rattle.std.proofs.Common.{ap, arith, ◌∙◌}
use Rattle.groups.proofs.KeepingLemmas.{chosen_all, marked_more, unmarked_more}
use Rattle.groups.proofs.keeping.chosen.Goals.{then-marks-numbers+in_ok-push, else-marks-numbers}
use Rattle.groups.proofs.keeping.chosen.Goals as goal

pub loop-at-preserved : goal.loop-at-preserved
loop-at-preserved c = elim c.if-marks-numbers.branch [
  | then-marks-numbers+in_ok-push w ↦ marked_more c.args.marks.now c.args.numbers.now c.args.indexes.now c.loop-at.at c.loop-at.kept.items _ c.requires.one c.loop-at-test.true c.loop-at.invariant
      w.if-marks-numbers.true (ap (λ v. v.items) w.kept-is ∙ w.in_ok-push.ensures.items)
  | else-marks-numbers w ↦ unmarked_more c.args.marks.now c.args.numbers.now c.args.indexes.now c.loop-at.at c.loop-at.kept.items _ c.requires.one c.loop-at-test.true c.loop-at.invariant
      w.if-marks-numbers.false (ap (λ v. v.items) w.kept-is)
]

pub returns : goal.returns
returns c =
    c.loop-at.invariant ∙ chosen_all c.args.marks.now c.args.numbers.now c.args.indexes.now c.loop-at.at
    (omega (arith, c.loop-at-test.false, c.loop-at.auto.at-end, c.requires.one)) (omega (arith, c.loop-at-test.false, c.loop-at.auto.at-end))
