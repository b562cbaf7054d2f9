-- The integers that bytes spell, in a record and in a literal (ISO/IEC 9075-2:1999, 5.3, exact numeric literals of integers).
use Rattle.std.specs.Prelude.{ℕ, ℤ, pos, neg_ℤ, List, [], ◌∷◌, drop, nat_le, nat_lt, Option, Some, None, option_and_then, if◌then◌else◌}
use Rattle.std.specs.Char.{is_ascii_digit}
use Rattle.std.specs.List.{list_all}
use Rattle.std.specs.Str.Parse.{digits_value, starts_with_minus}
use Rattle.cells.specs.Limits.{integer_limit, whole_limit}

-- the value of one or more digits; leading zeros count for nothing
abbrev pub natural_of : List ℕ → Option ℕ
natural_of [] = None
natural_of (d ∷ ds) = if list_all is_ascii_digit (d ∷ ds) then Some (digits_value 10 (d ∷ ds)) else None

-- the integers of 64 bits, behind a minus and without one
abbrev pub negative : ℕ → Option ℤ
negative n = if nat_le n integer_limit then Some (neg_ℤ (pos n)) else None

abbrev pub positive : ℕ → Option ℤ
positive n = if nat_lt n integer_limit then Some (pos n) else None

-- an optional minus and digits, with a value of 64 bits; there is no plus
abbrev pub integer_of : List ℕ → Option ℤ
integer_of bs = if starts_with_minus bs then option_and_then negative (natural_of (drop 1 bs))
    else option_and_then positive (natural_of bs)

-- digits alone, with a value of 64 bits; there is no sign
abbrev pub unsigned : ℕ → Option ℕ
unsigned n = if nat_lt n whole_limit then Some n else None

abbrev pub whole_number_of : List ℕ → Option ℕ
whole_number_of bs = option_and_then unsigned (natural_of bs)
