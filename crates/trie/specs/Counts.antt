-- The count of the nodes that are made.
use Rattle.std.specs.Prelude.{ℕ, ◌+◌, ◌-◌, ◌^◌, min}

-- the count with one more node: it stops at the greatest number of 64 bits
abbrev pub next_count : ℕ → ℕ
next_count made = min (made + 1) (2 ^ 64 - 1)
