use Rattle.std.proofs.Common.{◌≡◌, ◌++◌}
use Rattle.std.specs.List.{flat_map}
use Rattle.std.specs.Vec.Iter.{into_iter_items}
use Rattle.loader.proofs.loading.in_order.Given as goal

abbrev pub invariant-loop-found : goal.invariant-loop-found
invariant-loop-found g l = l.all.items ++ flat_map (λ found. found.items) (into_iter_items l.found-iterator) ≡ flat_map (λ found. found.items) l.fn.given.items
