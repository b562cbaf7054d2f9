use Rattle.std.proofs.Common.{arith}
use Rattle.tests.proofs.AccsLemmas.{can_step, has_stepped}
use Rattle.tests.proofs.of_aggs.step.Goals as goal

pub step-requires : goal.step-requires
step-requires g c = can_step c.args.kind c.args.cells.now c.args.acc.now c.requires c.args.cell.now (omega arith)

pub returns-clause-stepped : goal.returns-clause-stepped
returns-clause-stepped g c =
    has_stepped c.args.kind c.args.cells.now c.args.acc.now c.requires c.args.cell.now c.step.new.self c.in_ok-step.ensures.stepped
