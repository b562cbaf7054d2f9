use Rattle.std.proofs.Common.{◌≡◌, map, take}
use Rattle.query.specs.Marks.{marked_from}
use Rattle.query.proofs.sets.grouping_sets.Given as goal

abbrev pub invariant-loop-each : goal.invariant-loop-each
invariant-loop-each l = l.sets.items ≡ map (marked_from 0) (take l.each-index l.each-items)
