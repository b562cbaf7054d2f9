-- The limits of what this crate reads and computes.
use Rattle.std.specs.Prelude.{ℕ, ◌^◌}

-- the most bytes of a text cell and of a text literal
abbrev pub text_limit : ℕ
text_limit = 1024

-- the most columns of a table
abbrev pub column_limit : ℕ
column_limit = 16

-- an integer of 64 bits is at least minus this, and less than this
abbrev pub integer_limit : ℕ
integer_limit = 2 ^ 63

-- a whole number of 64 bits, and a hash, is less than this
abbrev pub whole_limit : ℕ
whole_limit = 2 ^ 64
