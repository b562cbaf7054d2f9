-- A step that keeps a cell changes the accumulator.
use Rattle.std.specs.List.{reduce}
use Rattle.std.specs.Ordering.{is_ge, is_lt, ordering_reverse}
use Rattle.std.specs.Result.{OnErr}
use Rattle.std.proofs.Common.{◌≡◌, ◌≢◌, Bool, true, false, [], ◌∷◌, Option, Some, None, Result, Ok, Err, refl, sym, ap, ◌∙◌, ◌↔◌, IsTrue, if◌then◌else◌, Ordering, Less, Equal, Greater}
use Rattle.aggs.specs.Reducing.{merged}
use Rattle.aggs.specs.Values.{greater, lesser, present}
use Rattle.cells.specs.CellOrder.{cell_cmp, cell_cmp-total}
use Rattle.cells.specs.declared.cell.Cell.{Cell}
use Rattle.cells.specs.declared.cell.Cell.TheVariants.{Null, Int, Text}

pub on_err : {T E P : Type 0} (r : Result T E) → P → OnErr r P
on_err (Ok x) p = tt
on_err (Err e) p = p

below : (r : Ordering) → is_ge r ≡ false → is_lt r ≡ true
below Less e = refl
below Equal e = cc
below Greater e = cc

not_itself : (r : Ordering) → r ≡ ordering_reverse r → is_ge r ≡ false → ⊥
not_itself Less turned e = cc
not_itself Equal turned e = cc
not_itself Greater turned e = cc

-- what stands before another is another
pub before : (a b : Cell) → is_ge (cell_cmp a b) ≡ false → a ≢ b
before a b e same = not_itself (cell_cmp a a) (cell_cmp-total.antisymm a a) (ap (λ c. is_ge (cell_cmp a c)) same ∙ e)

pub lesser_is : (least cell : Cell) → is_ge (cell_cmp cell least) ≡ false → lesser least cell ≡ cell
lesser_is least cell e = ap (λ b. if b then cell else least) (below (cell_cmp cell least) e)

pub greater_is : (greatest cell : Cell) → is_ge (cell_cmp greatest cell) ≡ false → greater greatest cell ≡ cell
greater_is greatest cell e = ap (λ b. if b then cell else greatest) (below (cell_cmp greatest cell) e)

one_present : (c : Cell) → c ≢ Null → present (c ∷ []) ≡ c ∷ []
one_present Null some = absurd (some refl)
one_present (Int n) some = refl
one_present (Text t) some = refl

module _ (op : Cell → Cell → Cell) where
  pub first_kept : (kept : Option Cell) (c : Cell) → kept ≡ None → c ≢ Null → merged op kept (reduce op (present (c ∷ []))) ≢ kept
  first_kept kept c none some same = cc (ap (λ cs. merged op None (reduce op cs)) (one_present c some), same, none)

  pub other_kept : (kept : Option Cell) (old c : Cell) → kept ≡ Some old → op old c ≡ c → c ≢ old → c ≢ Null →
      merged op kept (reduce op (present (c ∷ []))) ≢ kept
  other_kept kept old c is chosen differs some same =
      let made = ap (λ cs. merged op kept (reduce op cs)) (one_present c some) in
      let both : Some (op old c) ≡ Some old = sym (ap (λ k. merged op k (Some c)) is) ∙ (sym made ∙ same) ∙ is in
      let one : c ≡ old = cc (both, chosen) in
      differs one

pub not_null : (b : Bool) (c : Cell) → (IsTrue b ↔ (c ≡ Null)) → b ≡ false → c ≢ Null
not_null b c told e null = cc (e, told.1 null)
