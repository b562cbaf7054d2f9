-- Arrays of JSON as lists.
use Rattle.std.proofs.Common.{Bor, ◌≡◌, ◌<◌, ℕ, zero, suc, Option, Some, None, map, List, [], ◌∷◌, ◌++◌, arith, get_or, length, refl, subst, ap, ap₂, sym, take, ◌∙◌}
use Rattle.std.proofs.lemmas.Option.{same_Some}
use Rattle.std.specs.List.{AllZip}
use Rattle.std.specs.Option.{option_map}
use Rattle.std.specs.Prelude.{Vec}
use Rattle.std.specs.declared.alloc.Global.{Global}
use Rattle.serde_json.specs.Data.{Data, array}
use Rattle.serde_json.specs.Find.{as_array}
use Rattle.serde_json.specs.View.{items_of, items_view, view}
use Rattle.serde_json.specs.declared.value.Value.{Value}

-- one more of both
pub zip_more : {A B : Type 0} (R : A → B → Type 0) (xs : List A) (ys : List B) (x : A) (y : B) → AllZip R xs ys → R x y → AllZip R (xs ++ x ∷ []) (ys ++ y ∷ [])
zip_more R [] [] x y zip last = (last, tt)
zip_more R [] (v ∷ ys) x y zip last = absurd zip
zip_more R (u ∷ xs) [] x y zip last = absurd zip
zip_more R (u ∷ xs) (v ∷ ys) x y zip last = (zip.0, zip_more R xs ys x y zip.1 last)

-- an array has its items
pub same_items : (ds es : List Data) → items_of ds ≡ items_of es → ds ≡ es
same_items [] [] is = refl
same_items [] (e ∷ es) is = absurd (cc)
same_items (d ∷ ds) [] is = absurd (cc)
same_items (d ∷ ds) (e ∷ es) is = ap₂ (λ (x : Data) (l : List Data). x ∷ l) (cc) (same_items ds es (cc))

-- both are as long
pub as_long : {A B : Type 0} (R : A → B → Type 0) (xs : List A) (ys : List B) → AllZip R xs ys → length xs ≡ length ys
as_long R [] [] zip = refl
as_long R [] (y ∷ ys) zip = absurd zip
as_long R (x ∷ xs) [] zip = absurd zip
as_long R (x ∷ xs) (y ∷ ys) zip = ap suc (as_long R xs ys zip.1)

-- what stands at an index of the one list beside that of the other
pub record Beside {A B : Type 0} (R : A → B → Type 0) (xs : List A) (i : ℕ) (y : B) : Type 0 where
  pub one : A
  pub is : R one y
  pub more : take (suc i) xs ≡ take i xs ++ one ∷ []

pub beside_at : {A B : Type 0} (R : A → B → Type 0) (xs : List A) (ys : List B) (i : ℕ) (y : B) → AllZip R xs ys → i < length ys → y ≡ get_or ys i y → Beside R xs i y
beside_at R [] [] i y zip within at = absurd (omega (arith, within))
beside_at R [] (v ∷ ys) i y zip within at = absurd zip
beside_at R (u ∷ xs) [] i y zip within at = absurd zip
beside_at R (u ∷ xs) (v ∷ ys) zero y zip within at = record { one = u; is = subst (R u) (sym at) zip.0; more = refl }
beside_at R (u ∷ xs) (v ∷ ys) (suc i) y zip within at =
    let next = beside_at R xs ys i y zip.1 (omega (arith, within)) at in
    record { one = next.one; is = next.is; more = ap (λ l. u ∷ l) next.more }

-- the values of an array
pub values_are : (ds : List Data) (d : Data) (r : Option (Bor (Vec Value Global))) (x : Bor (Vec Value Global)) → d ≡ array (items_of ds) →
    option_map (λ v. items_view v.now.items) r ≡ as_array d → r ≡ Some x → map view x.now.items ≡ ds
values_are ds d r x is found some =
    same_items (map view x.now.items) ds (same_Some _ _ (sym (ap (option_map (λ v. items_view v.now.items)) some) ∙ found ∙ ap as_array is))

-- a list that is found, and one that is not
pub list_found : {A : Type 0} (o : Option (Vec A Global)) (v : Vec A Global) (xs : List A) → option_map (λ v. v.items) o ≡ Some xs → o ≡ Some v → v.items ≡ xs
list_found o v xs is some = same_Some _ _ (sym (ap (option_map (λ v. v.items)) some) ∙ is)

pub list_missed : {A : Type 0} (o : Option (Vec A Global)) (xs : List A) → option_map (λ v. v.items) o ≡ Some xs → o ≡ None → ⊥
list_missed o xs is none = let never = sym (ap (option_map (λ v. v.items)) none) ∙ is in cc
