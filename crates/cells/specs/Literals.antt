-- How a value of a report is printed (a literal of ISO/IEC 9075-2:1999, 5.3).
use Rattle.std.specs.Prelude.{ℕ, List, [], ◌∷◌, ◌++◌, codes}
use Rattle.std.specs.Fmt.{signed_decimal}
use Rattle.cells.specs.Spelling.{doubled}
use Rattle.cells.specs.declared.total.Total.{Total}
use Rattle.cells.specs.declared.total.Total.TheVariants.{Null, Int, Text}

-- `NULL`, an integer in decimal, or a text in single quotes with each quote in it doubled
abbrev pub literal_of : Total → List ℕ
literal_of Null = codes "NULL"
literal_of (Int n) = signed_decimal n
literal_of (Text t) = 39 ∷ (doubled t ++ 39 ∷ [])
