use Rattle.std.proofs.Common.{◌≡◌, false, take}
use Rattle.groups.specs.Pools.{has_set}
use Rattle.groups.proofs.pool.bag_in.Given as goal

abbrev pub invariant-loop-set_bag : goal.invariant-loop-set_bag
invariant-loop-set_bag g l = has_set (take l.set_bag-index l.pool) l.set ≡ false
