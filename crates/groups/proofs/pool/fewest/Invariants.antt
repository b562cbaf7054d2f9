use Rattle.std.proofs.Common.{◌≡◌, ◌<◌, ◌≤◌, ℕ, get_or, length, true}
use Rattle.groups.specs.Pools.{has_all}
use Rattle.groups.specs.declared.pool.SetBag.{SetBag}
use Rattle.groups.proofs.pool.fewest.Given as goal

abbrev pub invariant-loop-i : goal.invariant-loop-i
invariant-loop-i g l = record {
  within : l.index < length l.pool;
  finer : (d : SetBag _) → has_all (get_or l.pool l.index d).set.items l.set ≡ true;
  count : (d : SetBag _) → l.least ≡ length (get_or l.pool l.index d).bag;
  least : (d : SetBag _) (at : ℕ) → at < l.i → has_all (get_or l.pool at d).set.items l.set ≡ true → l.least ≤ length (get_or l.pool at d).bag;
}
