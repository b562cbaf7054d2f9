use Rattle.std.proofs.Common.{◌≡◌, ◌+◌, drop}
use Rattle.query.specs.Plans.{index_of}
use Rattle.query.proofs.indexes.index_of.Given as goal

abbrev pub invariant-loop-index : goal.invariant-loop-index
invariant-loop-index l = index_of l.columns l.name ≡ l.index + index_of (drop l.index l.columns) l.name
