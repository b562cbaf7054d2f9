use Rattle.std.proofs.Common.{◌≡◌, ◌++◌, map}
use Rattle.shards.specs.Documents.{line_value}
use Rattle.shards.proofs.line.tolds_of.Given as goal

abbrev pub invariant-loop-line : goal.invariant-loop-line
invariant-loop-line l = map line_value l.all.items ++ l.line-iterator.rest.items ≡ l.fn.lines.items
