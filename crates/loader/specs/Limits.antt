-- The limit that this crate decides.
use Rattle.std.specs.Prelude.{ℕ}

-- the most bytes of the parts of a list together, where a part that is listed twice counts twice
abbrev pub listed_limit : ℕ
listed_limit = 1099511627776
