-- The limits that this crate decides.
use Rattle.std.specs.Prelude.{ℕ, max, min}

-- the most pieces of a deal
abbrev pub piece_limit : ℕ
piece_limit = 4294967296

-- the most seats of a deal
abbrev pub seat_limit : ℕ
seat_limit = 64

-- as many workers as are asked for, but one at least, and no more than there are seats
abbrev pub workers_of : ℕ → ℕ
workers_of workers = min (max workers 1) seat_limit
