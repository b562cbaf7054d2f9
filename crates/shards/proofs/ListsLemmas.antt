-- Lists that are found, and those that are not.
use Rattle.std.proofs.Common.{◌≡◌, List, Option, None, Some, ap, sym, ◌∙◌}
use Rattle.std.proofs.lemmas.Option.{same_Some}
use Rattle.std.specs.Option.{option_map}
use Rattle.std.specs.Prelude.{Vec}
use Rattle.std.specs.declared.alloc.Global.{Global}

pub list_found : {A : Type 0} (o : Option (Vec A Global)) (v : Vec A Global) (xs : List A) → option_map (λ v. v.items) o ≡ Some xs → o ≡ Some v → v.items ≡ xs
list_found o v xs is some = same_Some _ _ (sym (ap (option_map (λ v. v.items)) some) ∙ is)

pub list_missed : {A : Type 0} (o : Option (Vec A Global)) (xs : List A) → option_map (λ v. v.items) o ≡ Some xs → o ≡ None → ⊥
list_missed o xs is none = let never = sym (ap (option_map (λ v. v.items)) none) ∙ is in cc
