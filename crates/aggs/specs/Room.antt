-- How many cells accumulators have room for.
use Rattle.std.specs.Prelude.{ℕ}

-- the most cells that an accumulator may stand for
abbrev pub cell_limit : ℕ
cell_limit = 4294967296
