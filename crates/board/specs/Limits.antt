-- The limits that this crate decides.
use Rattle.std.specs.Prelude.{ℕ, ◌^◌}

-- the most rows that any draft may have
abbrev pub row_limit : ℕ
row_limit = 2 ^ 32

-- the most places for viewers
abbrev pub place_limit : ℕ
place_limit = 64
