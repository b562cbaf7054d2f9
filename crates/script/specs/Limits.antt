-- The numbers that bound a run, each named here and in `src/limits.rt`: the ranges of what it may be told, with what
-- stands where nothing is told, and the limits of a script and its parts.
use Rattle.std.specs.Prelude.{ℕ, ◌≤◌, ◌^◌, ◌-◌}
use Rattle.trie.specs.Digits.{digit_count}
use Rattle.board.specs.Limits.{row_limit}
use Rattle.report.specs.Limits.{worker_limit}
use Rattle.script.specs.declared.limits.Limits.{Limits}

abbrev pub workers : Limits
workers = record { least = 1; most = worker_limit; default = 1 }

-- no cut is deeper than a hash has digits
abbrev pub depth : Limits
depth = record { least = 0; most = digit_count; default = 1 }

abbrev pub small : Limits
small = record { least = 0; most = 2 ^ 64 - 1; default = 0 }

abbrev pub rows : Limits
rows = record { least = 1; most = row_limit; default = row_limit }

-- how many viewers there are beside a run, and how many reports each makes before its last one
abbrev pub viewers : Limits
viewers = record { least = 1; most = 16; default = 2 }

abbrev pub shots : Limits
shots = record { least = 1; most = 1000; default = 1 }

abbrev pub IsWithin : Limits → ℕ → Type 0
IsWithin limits n = (limits.least ≤ n) × (n ≤ limits.most)

-- the most bytes of a script, and the most parts
abbrev pub script_limit : ℕ
script_limit = 1048576

abbrev pub part_limit : ℕ
part_limit = 64
