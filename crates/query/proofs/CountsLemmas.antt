-- How many grouping sets there are.
use Rattle.std.proofs.Common.{◌≡◌, ℕ, zero, suc, ◌+◌, ◌-◌, inl, inr, ap₂, drop, drop-cons, get_or, ◌*◌, ◌^◌, ◌<◌, ◌≤◌, min, List, [], ◌∷◌, ◌++◌, map, length, refl, sym, ap, ◌∙◌, arith, length-append, lit<}
use Rattle.std.proofs.lemmas.Bool.{cases_lt}
use Rattle.std.proofs.lemmas.List.{length-map}
use Rattle.std.proofs.Math.Nat.{le-mul_of_pos_right, mul_comm, pow-le-pow_right, pow-suc}
use Rattle.std.specs.List.{flat_map}
use Rattle.query.specs.Trees.{ElementTree}
use Rattle.query.specs.Sets.{Names, counted, cube, grouping_sets, rollup, sets_of}

pub length-rollup : (us : List Names) → length (rollup us) ≡ length us + 1
length-rollup [] = refl
length-rollup (u ∷ us) =
    length-append (map (λ g. u ++ g) (rollup us)) ([] ∷ [])
    ∙ omega (arith, length-map (rollup us) (λ g. u ++ g), length-rollup us)

pub length-cube : (us : List Names) → length (cube us) ≡ 2 ^ length us
length-cube [] = refl
length-cube (u ∷ us) =
    length-append (map (λ g. u ++ g) (cube us)) (cube us)
    ∙ omega (arith, length-map (cube us) (λ g. u ++ g), length-cube us, pow-suc 2 (length us))

pub many : (n : ℕ) → 8 < n → 257 ≡ min 257 (2 ^ n)
many n h = let p : 2 ^ 9 ≤ 2 ^ n = pow-le-pow_right {n = 2} (lit< tt) {i = 9} {j = n} (omega arith) in omega arith

length-choices : (gs hs : List Names) → length (flat_map (λ g. map (λ h. g ++ h) hs) gs) ≡ length gs * length hs
length-choices [] hs = omega arith
length-choices (g ∷ gs) hs =
    length-append (map (λ h. g ++ h) hs) (flat_map (λ x. map (λ h. x ++ h) hs) gs)
    ∙ grind (arith, length-map hs (λ h. g ++ h), length-choices gs hs)

pub length-sets : (e : ElementTree) (es : List ElementTree) → length (grouping_sets (e ∷ es)) ≡ length (sets_of e) * length (grouping_sets es)
length-sets e es = length-choices (sets_of e) (grouping_sets es)

pub counted_times : (a b : ℕ) → counted (counted a * b) ≡ counted (a * b)
counted_times a zero = let e : counted a * 0 ≡ 0 = grind arith in let f : a * 0 ≡ 0 = grind arith in ap counted (e ∙ sym f)
counted_times a (suc b) = elim (cases_lt 257 a) [
  | inr small ↦ let same : counted a ≡ a = omega arith in ap (λ x. counted (x * suc b)) same
  | inl big ↦
      let same : counted a ≡ 257 = omega arith in
      let p = le-mul_of_pos_right {m = suc b} a (omega arith) in
      let q = le-mul_of_pos_right {m = suc b} 257 (omega arith) in
      ap (λ x. counted (x * suc b)) same ∙ omega arith
]

-- the count of one element more
pub count_step : (e : ElementTree) (es : List ElementTree) (total n : ℕ) → total ≡ counted (length (grouping_sets es)) → n ≡ counted (length (sets_of e)) → min 257 (total * n) ≡ counted (length (grouping_sets (e ∷ es)))
count_step e es total n t c =
    let a = length (sets_of e) in
    let b = length (grouping_sets es) in
    ap counted (ap₂ (λ x y. x * y) t c ∙ mul_comm (counted b) (counted a))
    ∙ counted_times a (counted b) ∙ ap counted (mul_comm a (counted b)) ∙ counted_times b a ∙ ap counted (mul_comm b a) ∙ sym (ap counted (length-sets e es))

pub drop_back : {X : Type 0} (us : List X) (left : ℕ) (u : X) → 0 < left → left ≤ length us → u ≡ get_or us (left - 1) u → drop (left - 1) us ≡ u ∷ drop left us
drop_back us zero u p h is = absurd (omega arith)
drop_back us (suc i) u p h is =
    let same : suc i - 1 ≡ i = omega arith in
    let within : i < length us = omega arith in
    let here : u ≡ get_or us i u = is ∙ ap (λ k. get_or us k u) same in
    ap (λ k. drop k us) same ∙ drop-cons us i u within ∙ ap (λ x. x ∷ drop (suc i) us) (sym here)
