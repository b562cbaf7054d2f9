-- Keys that are equal are the same, so whatever is computed from them is.
use Rattle.std.specs.Prelude.{◌≡◌, List, [], ◌∷◌, T, true, false, refl}
use Rattle.std.specs.Ordering.{is_eq, ordering_then}
use Rattle.std.specs.declared.cmp.Ordering.{Ordering}
use Rattle.std.specs.declared.cmp.Ordering.TheVariants.{Less, Equal, Greater}
use Rattle.std.proofs.Common.{ap, ap₂, subst, sym, ◌∙◌}
use Rattle.std.proofs.lemmas.Map.Lookups.{CmpEqualImpliesEq, exact_bytes, exact_signed}
use Rattle.std.proofs.lemmas.Map.Views.{tells_apart}
use Rattle.cells.specs.CellOrder.{cell_cmp, cell_eq}
use Rattle.cells.specs.TupleOrder.{tuple_cmp, tuple_eq}
use Rattle.cells.specs.declared.cell.Cell.{Cell}
use Rattle.cells.specs.declared.cell.Cell.TheVariants.{Null, Int, Text}

-- what differs is not equal
other : {A : Type 0} (o : Ordering) → is_eq o ≡ false → o ≡ Equal → A
other o differs e = absurd (subst T (sym (ap is_eq e) ∙ differs) tt)

equal_cells : (x y : Cell) → cell_cmp x y ≡ Equal → x ≡ y
equal_cells Null Null e = refl
equal_cells Null (Int b) e = other Less refl e
equal_cells Null (Text b) e = other Less refl e
equal_cells (Int a) Null e = other Greater refl e
equal_cells (Int a) (Int b) e = ap Int (exact_signed a b e)
equal_cells (Int a) (Text b) e = other Less refl e
equal_cells (Text a) Null e = other Greater refl e
equal_cells (Text a) (Int b) e = other Greater refl e
equal_cells (Text a) (Text b) e = ap Text (exact_bytes a b e)

pub exact_cells : CmpEqualImpliesEq cell_cmp
exact_cells = equal_cells

both_equal : (o p : Ordering) → ordering_then o p ≡ Equal → (o ≡ Equal) × (p ≡ Equal)
both_equal Less p e = other Less refl e
both_equal Equal p e = (refl, e)
both_equal Greater p e = other Greater refl e

equal_tuples : (xs ys : List Cell) → tuple_cmp xs ys ≡ Equal → xs ≡ ys
equal_tuples [] [] e = refl
equal_tuples [] (y ∷ ys) e = other Less refl e
equal_tuples (x ∷ xs) [] e = other Greater refl e
equal_tuples (x ∷ xs) (y ∷ ys) e =
    let both = both_equal (cell_cmp x y) (tuple_cmp xs ys) e in
    ap₂ (λ (c : Cell) (cs : List Cell). c ∷ cs) (equal_cells x y both.0) (equal_tuples xs ys both.1)

pub exact_tuples : CmpEqualImpliesEq tuple_cmp
exact_tuples = equal_tuples

pub same_cells : (x y : Cell) → cell_eq x y ≡ true → x ≡ y
same_cells = tells_apart exact_cells

pub same_tuples : (x y : List Cell) → tuple_eq x y ≡ true → x ≡ y
same_tuples = tells_apart exact_tuples
