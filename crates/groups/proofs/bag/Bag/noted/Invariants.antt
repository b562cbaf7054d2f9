use Rattle.std.proofs.Common.{◌<◌, length}
use Rattle.std.specs.HashMap.{values}
use Rattle.std.specs.List.{All}
use Rattle.groups.proofs.bag.Bag.noted.Given as goal

abbrev pub invariant-loop-index : goal.invariant-loop-index
invariant-loop-index g l = All (λ index. index < length l.groups.items) (values l.by_hash)
