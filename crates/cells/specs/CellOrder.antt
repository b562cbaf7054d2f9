-- The order of cells: NULL, then the integers by value, then the texts by bytes.
use Rattle.std.specs.Prelude.{◌≡◌, Bool, ℕ, ℤ, pos, List, [], refl}
use Rattle.std.specs.Cmp.{IsEquivalence, IsTotalOrder, nat_cmp_total, int_cmp_total, on_total, then_total, eq_by_cmp_equiv}
use Rattle.std.specs.Cmp.Lexicographic.{nat_list_cmp_total}
use Rattle.std.specs.Ordering.{eq_by_cmp, int_cmp, nat_cmp, on, ordering_then, then_cmp}
use Rattle.std.specs.declared.cmp.Ordering.{Ordering}
use Rattle.std.specs.declared.cmp.Ordering.TheVariants.{Less, Equal, Greater}
use Rattle.std.proofs.Common.{subst}
use Rattle.cells.specs.TextOrder.{bytes_cmp}
use Rattle.cells.specs.declared.cell.Cell.{Cell}
use Rattle.cells.specs.declared.cell.Cell.TheVariants.{Null, Int, Text}

abbrev pub cell_cmp : Cell → Cell → Ordering
cell_cmp Null Null = Equal
cell_cmp Null (Int b) = Less
cell_cmp Null (Text b) = Less
cell_cmp (Int a) Null = Greater
cell_cmp (Int a) (Int b) = int_cmp a b
cell_cmp (Int a) (Text b) = Less
cell_cmp (Text a) Null = Greater
cell_cmp (Text a) (Int b) = Greater
cell_cmp (Text a) (Text b) = bytes_cmp a b

-- not distinct: NULL equals NULL
abbrev pub cell_eq : Cell → Cell → Bool
cell_eq = eq_by_cmp cell_cmp

-- the same order, read off three keys
kind_of : Cell → ℕ
kind_of Null = 0
kind_of (Int a) = 1
kind_of (Text a) = 2

number_of : Cell → ℤ
number_of Null = pos 0
number_of (Int a) = a
number_of (Text a) = pos 0

bytes_of : Cell → List ℕ
bytes_of Null = []
bytes_of (Int a) = []
bytes_of (Text a) = a

abbrev by_keys : Cell → Cell → Ordering
by_keys = then_cmp (on kind_of nat_cmp) (then_cmp (on number_of int_cmp) (on bytes_of bytes_cmp))

by_keys-total : IsTotalOrder by_keys
by_keys-total = then_total (on_total kind_of nat_cmp_total) (then_total (on_total number_of int_cmp_total) (on_total bytes_of nat_list_cmp_total))

-- a tie last decides nothing
then_equal : (o : Ordering) → ordering_then o Equal ≡ o
then_equal Less = refl
then_equal other = refl

cell_cmp-by_keys : (x y : Cell) → by_keys x y ≡ cell_cmp x y
unfolding kind_of number_of bytes_of
cell_cmp-by_keys Null Null = refl
cell_cmp-by_keys Null (Int b) = refl
cell_cmp-by_keys Null (Text b) = refl
cell_cmp-by_keys (Int a) Null = refl
cell_cmp-by_keys (Int a) (Int b) = then_equal (int_cmp a b)
cell_cmp-by_keys (Int a) (Text b) = refl
cell_cmp-by_keys (Text a) Null = refl
cell_cmp-by_keys (Text a) (Int b) = refl
cell_cmp-by_keys (Text a) (Text b) = refl

pub cell_cmp-total : IsTotalOrder cell_cmp
cell_cmp-total = subst IsTotalOrder (λ i x y. cell_cmp-by_keys x y i) by_keys-total

pub cell_eq-equiv : IsEquivalence cell_eq
cell_eq-equiv = eq_by_cmp_equiv cell_cmp-total
