use Rattle.groups.proofs.GroupingLemmas.{digit_step}
use Rattle.groups.proofs.report_row.grouping.Goals as goal

pub loop-column-preserved : goal.loop-column-preserved
loop-column-preserved c =
    digit_step c.args.set.now c.args.columns.now c.loop-column.column-index c.loop-column.found c.mark.result c.index_in.result
    c.loop-column-test.true c.loop-column.invariant c.index_in.ensures c.mark.ensures
