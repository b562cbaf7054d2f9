use Rattle.tests.proofs.AccsLemmas.{all_taken, one_further}
use Rattle.tests.proofs.of_aggs.over.Goals as goal

pub loop-i-init : goal.loop-i-init
loop-i-init g c = c.empty-acc.ensures

pub loop-i-preserved : goal.loop-i-preserved
loop-i-preserved g c =
    one_further c.args.kind c.args.cells.now c.loop-i.i c.index-cells-i.result c.step_at_last.new.acc c.loop-i-test.true c.index-cells-i.is c.in_ok-step_at_last.ensures

pub returns : goal.returns
returns g c = all_taken c.args.kind c.args.cells.now c.loop-i.i c.loop-i.acc c.loop-i-test.false c.loop-i.invariant
