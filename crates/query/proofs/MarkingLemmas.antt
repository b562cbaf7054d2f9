-- The marks of the first items of a list.
use Rattle.std.proofs.Common.{◌≡◌, ℕ, Bool, true, false, ◌||◌, List, [], ◌∷◌, ◌++◌, drop, length, map, take, refl, ap, ap₂, sym, ◌∙◌}
use Rattle.std.proofs.lemmas.List.{take-append-drop}
use Rattle.std.proofs.lemmas.List.Folds.{list_any-append}
use Rattle.std.specs.List.{list_any}
use Rattle.query.specs.Marking.{mark_of, with_marks}
use Rattle.query.specs.Values.{is_long}
use Rattle.query.specs.declared.item.Item.{Item}
use Rattle.query.specs.declared.item.Item.TheVariants as item
use Rattle.query.proofs.ShortLemmas.{short_both}

-- no mark is long
short_marks : (is : List (Item ℕ)) → list_any is_long (map mark_of is) ≡ false
short_marks [] = refl
short_marks (item.Column c ∷ is) = short_marks is
short_marks (item.Grouping cs ∷ is) = short_marks is
short_marks (item.CountRows ∷ is) = short_marks is
short_marks (item.Count c ∷ is) = short_marks is
short_marks (item.CountDistinct c ∷ is) = short_marks is
short_marks (item.Sum c ∷ is) = short_marks is
short_marks (item.Min c ∷ is) = short_marks is
short_marks (item.Max c ∷ is) = short_marks is

short_first : (a b : Bool) → (a || b) ≡ false → a ≡ false
short_first false b e = refl
short_first true b e = e

short_second : (a b : Bool) → (a || b) ≡ false → b ≡ false
short_second false b e = e
short_second true b e = absurd cc

-- nor is an item of a list of which none is, with the marks of the first ones behind these
pub short_marked : (many : ℕ) (is new : List (Item ℕ)) → new ≡ with_marks many is → list_any is_long is ≡ false → list_any is_long new ≡ false
short_marked many is new made short =
    let parts : (list_any is_long (take many is) || list_any is_long (drop many is)) ≡ false = sym (list_any-append is_long (take many is) (drop many is)) ∙ ap (list_any is_long) (take-append-drop many is) ∙ short in
    let first = short_first (list_any is_long (take many is)) (list_any is_long (drop many is)) parts in
    let second = short_second (list_any is_long (take many is)) (list_any is_long (drop many is)) parts in
    ap (list_any is_long) made ∙ short_both (take many is) (map mark_of (take many is) ++ drop many is) first (short_both (map mark_of (take many is)) (drop many is) (short_marks (take many is)) second)
