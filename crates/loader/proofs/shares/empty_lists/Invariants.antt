use Rattle.std.proofs.Common.{◌≡◌, [], map, replicate}
use Rattle.loader.proofs.shares.empty_lists.Given as goal

abbrev pub invariant-loop : goal.invariant-loop
invariant-loop g l = map (λ list. list.items) l.all.items ≡ replicate l.counter []
