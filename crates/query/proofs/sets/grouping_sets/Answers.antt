use Rattle.query.specs.Sets.{grouping_sets}
use Rattle.query.proofs.MarksLemmas.{indexes_all}
use Rattle.query.proofs.sets.grouping_sets.Goals as goal

pub returns : goal.returns
returns c =
    indexes_all c.args.columns.now (grouping_sets c.args.elements.now) c.in_ok-marks.marks.items c.as_slice-each-items.result.now c.loop-each.each-index c.loop-each.sets.items
    c.in_ok-marks.ensures c.as_slice-each-items.ensures.value c.loop-each-test.false c.loop-each.invariant
