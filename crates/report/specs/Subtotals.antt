-- How a table tells subtotals. Where the grouping set of a row lacks a column (ISO/IEC 9075-2:1999, 7.9), the row stands for all values of
-- the column. Each value has a mark (specs/Marking of the queries), by which such a NULL is told from one of the data; the marks stand
-- behind all values.
use Rattle.std.specs.Prelude.{◌/◌, Bool, false, List, codes, drop, if◌then◌else◌, length, map, pos, take}
use Rattle.std.specs.List.{zip}
use Rattle.std.specs.Ordering.{int_eq}
use Rattle.cells.specs.declared.total.Total.{Total}
use Rattle.cells.specs.declared.total.Total.TheVariants.{Null, Int, Text}

-- the first half of a list, and the marks behind it
abbrev pub unmarked : {X : Type 0} → List X → List X
unmarked xs = take (length xs / 2) xs

abbrev pub marks : {X : Type 0} → List X → List X
marks xs = drop (length xs / 2) xs

-- the mark of a column that the grouping set lacks
abbrev pub is_all : Total → Bool
is_all Null = false
is_all (Int n) = int_eq n (pos 1)
is_all (Text t) = false

-- a value by its mark
abbrev pub told : Total × Total → Total
told (value, mark) = if is_all mark then Text (codes "(all)") else value

-- the values of a row, each by its mark
abbrev pub told_row : List Total → List Total
told_row row = map told (zip (unmarked row) (marks row))
