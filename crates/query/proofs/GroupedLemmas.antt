-- A column is in some grouping set exactly where some element names it.
use Rattle.std.proofs.Common.{◌≡◌, ℕ, zero, suc, ◌*◌, ◌<◌, Bool, true, false, ◌||◌, List, [], ◌∷◌, ◌++◌, length, map, refl, sym, ap, ap₂, ◌∙◌, arith, length-append}
use Rattle.std.proofs.Math.Nat.{suc-mul}
use Rattle.std.proofs.lemmas.List.Folds.{list_any-append}
use Rattle.std.specs.List.{flat_map, list_any}
use Rattle.std.specs.Prelude.{bytes_eq}
use Rattle.query.specs.Trees.{ElementTree, Empty, OneUnit, Rollup, Cube, Sets, ElementTrees, NoElements, MoreElements}
use Rattle.query.specs.Sets.{Names, cube, grouping_sets, rollup, sets_of, sets_of_each}
use Rattle.query.specs.Names.{element_names, names_of_each}
use Rattle.query.specs.Values.{AreFilled, HasElements, IsEachFilled, IsFilled}
use Rattle.query.proofs.CountsLemmas.{length-rollup, length-sets}

or_dist : (a b c : Bool) → ((a || b) || (a || c)) ≡ (a || (b || c))
or_dist true b c = refl
or_dist false b c = refl

or_none : (a : Bool) → (a || false) ≡ a
or_none true = refl
or_none false = refl

or_again : (a c : Bool) → ((a || c) || c) ≡ (a || c)
or_again true c = refl
or_again false true = refl
or_again false false = refl

or_over : (a b c : Bool) → ((a || b) || c) ≡ (a || (b || c))
or_over true b c = refl
or_over false b c = refl

or_cross : (a b t : Bool) → ((a || t) || (b || t)) ≡ ((a || b) || t)
or_cross true b t = refl
or_cross false true true = refl
or_cross false true false = refl
or_cross false false true = refl
or_cross false false false = refl

cube_some : (us : List Names) → 0 < length (cube us)
cube_some [] = omega arith
cube_some (u ∷ us) = let a = cube_some us in let b = length-append (map (λ g. u ++ g) (cube us)) (cube us) in omega arith

module _ (n : List ℕ) where
  abbrev has : Names → Bool
  has g = list_any (bytes_eq n) g

  union : (u : Names) (gs : List Names) → 0 < length gs → list_any has (map (λ g. u ++ g) gs) ≡ (has u || list_any has gs)
  union u [] h = absurd (omega arith)
  union u (g ∷ []) h = ap (λ b. b || false) (list_any-append (bytes_eq n) u g) ∙ or_over (has u) (has g) false
  union u (g ∷ f ∷ fs) h =
      ap₂ (λ a b. a || b) (list_any-append (bytes_eq n) u g) (union u (f ∷ fs) (omega arith)) ∙ or_dist (has u) (has g) (list_any has (f ∷ fs))

  in_rollup : (us : List Names) → list_any has (rollup us) ≡ has (flat_map (λ u. u) us)
  in_rollup [] = refl
  in_rollup (u ∷ us) =
      let some : 0 < length (rollup us) = omega (arith, length-rollup us) in
      list_any-append has (map (λ g. u ++ g) (rollup us)) ([] ∷ []) ∙ or_none (list_any has (map (λ g. u ++ g) (rollup us))) ∙ union u (rollup us) some
      ∙ ap (λ b. has u || b) (in_rollup us) ∙ sym (list_any-append (bytes_eq n) u (flat_map (λ v. v) us))

  in_cube : (us : List Names) → list_any has (cube us) ≡ has (flat_map (λ u. u) us)
  in_cube [] = refl
  in_cube (u ∷ us) =
      list_any-append has (map (λ g. u ++ g) (cube us)) (cube us) ∙ ap (λ b. b || list_any has (cube us)) (union u (cube us) (cube_some us))
      ∙ or_again (has u) (list_any has (cube us)) ∙ ap (λ b. has u || b) (in_cube us) ∙ sym (list_any-append (bytes_eq n) u (flat_map (λ v. v) us))

  mutual
    in_element : (e : ElementTree) → list_any has (sets_of e) ≡ has (element_names e)
    in_element Empty = refl
    in_element (OneUnit u) = or_none (has u)
    in_element (Rollup us) = in_rollup us
    in_element (Cube us) = in_cube us
    in_element (Sets es) = in_elements es

    in_elements : (es : ElementTrees) → list_any has (sets_of_each es) ≡ has (names_of_each es)
    in_elements NoElements = refl
    in_elements (MoreElements e es) =
        list_any-append has (sets_of e) (sets_of_each es) ∙ ap₂ (λ a b. a || b) (in_element e) (in_elements es) ∙ sym (list_any-append (bytes_eq n) (element_names e) (names_of_each es))

  choose : (gs ts : List Names) → 0 < length gs → 0 < length ts → list_any has (flat_map (λ g. map (λ h. g ++ h) ts) gs) ≡ (list_any has gs || list_any has ts)
  choose [] ts a b = absurd (omega arith)
  choose (g ∷ []) ts a b =
      list_any-append has (map (λ h. g ++ h) ts) [] ∙ or_none (list_any has (map (λ h. g ++ h) ts)) ∙ union g ts b ∙ ap (λ x. x || list_any has ts) (sym (or_none (has g)))
  choose (g ∷ f ∷ fs) ts a b =
      list_any-append has (map (λ h. g ++ h) ts) (flat_map (λ x. map (λ h. x ++ h) ts) (f ∷ fs))
      ∙ ap₂ (λ x y. x || y) (union g ts b) (choose (f ∷ fs) ts (omega arith) b) ∙ or_cross (has g) (list_any has (f ∷ fs)) (list_any has ts)

  mutual
    some_sets : (e : ElementTree) → IsFilled e → 0 < length (sets_of e)
    some_sets Empty h = omega arith
    some_sets (OneUnit u) h = omega arith
    some_sets (Rollup us) h = omega (arith, length-rollup us)
    some_sets (Cube us) h = cube_some us
    some_sets (Sets es) h = some_of_each es h.0 h.1

    some_of_each : (es : ElementTrees) → HasElements es → IsEachFilled es → 0 < length (sets_of_each es)
    some_of_each NoElements h k = absurd h
    some_of_each (MoreElements e es) h k = let a = some_sets e k.0 in let b = length-append (sets_of e) (sets_of_each es) in omega arith

  some_grouping : (es : List ElementTree) → AreFilled es → 0 < length (grouping_sets es)
  some_grouping [] h = omega arith
  some_grouping (e ∷ es) h = positive (length (sets_of e)) (length (grouping_sets es)) (some_sets e h.0) (some_grouping es h.1) (length-sets e es) where
    positive : (a b : ℕ) {c : ℕ} → 0 < a → 0 < b → c ≡ a * b → 0 < c
    positive zero b p q r = absurd (omega arith)
    positive (suc a) b p q r = let m = suc-mul a b in omega arith

  pub named_or_not : (es : List ElementTree) → AreFilled es → list_any has (grouping_sets es) ≡ has (flat_map element_names es)
  named_or_not [] h = refl
  named_or_not (e ∷ es) h =
      choose (sets_of e) (grouping_sets es) (some_sets e h.0) (some_grouping es h.1)
      ∙ ap₂ (λ a b. a || b) (in_element e) (named_or_not es h.1) ∙ sym (list_any-append (bytes_eq n) (element_names e) (flat_map element_names es))
