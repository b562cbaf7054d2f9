use Rattle.std.proofs.Common.{take}
use Rattle.std.specs.Prelude.{None}
use Rattle.columns.specs.Columns.{decoded}
use Rattle.groups.specs.Parting.{codes_at}
use Rattle.groups.specs.Tallying.{AreStepped}
use Rattle.groups.proofs.tallying.stepped_numbers.Given as goal

abbrev pub invariant-loop-at : goal.invariant-loop-at
invariant-loop-at g l = AreStepped g.A.Aggregate.of l.count (take l.at l.numbers) (take l.at (decoded None (codes_at l.codes l.rows))) l.accs.items
