use Rattle.std.proofs.Common.{◌≡◌, ◌==◌, ◌≤◌, ◌-◌, ℕ, true}
use Rattle.std.specs.List.{list_any}
use Rattle.shards.proofs.numbers.missing.Given as goal

abbrev pub invariant-loop-number : goal.invariant-loop-number
invariant-loop-number l = record {
  found : (number : ℕ) → 1 ≤ number → number ≤ l.number → list_any (λ n. number == n) l.numbers ≡ true;
  within : l.number ≤ l.count;
}

abbrev pub decreases-loop-number : goal.decreases-loop-number
decreases-loop-number l = l.count - l.number
