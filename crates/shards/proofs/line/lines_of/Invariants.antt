use Rattle.std.proofs.Common.{◌≡◌, ◌++◌, map}
use Rattle.shards.specs.Documents.{line_value}
use Rattle.shards.proofs.line.lines_of.Given as goal

abbrev pub invariant-loop-told : goal.invariant-loop-told
invariant-loop-told l = l.all.items ++ map line_value l.told-iterator.rest.items ≡ map line_value l.fn.tolds.items
