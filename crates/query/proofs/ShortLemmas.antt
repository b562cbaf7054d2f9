-- No GROUPING is long: of two lists together, and with indexes for names.
use Rattle.std.proofs.Common.{◌≡◌, ℕ, Bool, false, ◌||◌, List, [], ◌∷◌, ◌++◌, map, refl, ap, ap₂, ◌∙◌}
use Rattle.std.proofs.lemmas.List.{length-map}
use Rattle.std.proofs.lemmas.List.Folds.{list_any-append}
use Rattle.std.specs.List.{list_any}
use Rattle.std.specs.Prelude.{nat_lt}
use Rattle.cells.specs.declared.schema.Column.{Column}
use Rattle.query.specs.Plans.{index_of, resolved_item}
use Rattle.query.specs.Values.{is_long}
use Rattle.query.specs.declared.item.Item.{Item}
use Rattle.query.specs.declared.item.Item.TheVariants as item

none_of_both : (a b : Bool) → a ≡ false → b ≡ false → (a || b) ≡ false
none_of_both a b first more = ap₂ (λ x y. x || y) first more

-- ---- the items of the select list, and those of HAVING behind them
pub short_both : {C : Type 0} → (is more : List (Item C)) → list_any is_long is ≡ false → list_any is_long more ≡ false → list_any is_long (is ++ more) ≡ false
short_both is more first second = list_any-append is_long is more ∙ none_of_both (list_any is_long is) (list_any is_long more) first second

-- ---- indexes are as many as names
long_resolved : (cs : List Column) (i : Item (List ℕ)) → is_long (resolved_item cs i) ≡ is_long i
long_resolved cs (item.Grouping ns) = ap (nat_lt 16) (length-map ns (index_of cs))
long_resolved cs i = refl

any_resolved : (cs : List Column) (is : List (Item (List ℕ))) → list_any is_long (map (resolved_item cs) is) ≡ list_any is_long is
any_resolved cs [] = refl
any_resolved cs (i ∷ is) = ap₂ (λ a b. a || b) (long_resolved cs i) (any_resolved cs is)

pub short_resolved : (cs : List Column) (is : List (Item (List ℕ))) (new : List (Item ℕ)) → new ≡ map (resolved_item cs) is → list_any is_long is ≡ false → list_any is_long new ≡ false
short_resolved cs is new made short = ap (list_any is_long) made ∙ any_resolved cs is ∙ short
