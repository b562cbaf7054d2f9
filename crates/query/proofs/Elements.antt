-- Grouping elements.
use Rattle.std.proofs.Common.{◌≡◌, ℕ, List, [], ◌∷◌, refl, sym, ap, subst}
use Rattle.std.specs.Prelude.{codes}
use Rattle.cells.specs.declared.token.Token.{Token}
use Rattle.cells.specs.declared.token.Token.TheVariants.{Word}
use Rattle.query.specs.Trees.{ElementTree, Empty, OneUnit, Rollup, Cube, Sets, ElementTrees, MoreElements, elements_of}
use Rattle.query.specs.Grammar.{Separated, last, next, name, SpellsUnit, one, several, SpellsElement, empty, unit, rollup, cube, sets, SpellsElements, last_element, next_element, lparen, rparen, comma, DISTINCT, ROLLUP, CUBE, GROUPING, SETS}
use Rattle.query.specs.Phrases.{IsPlain}
use Rattle.query.specs.Reading.{Any, BeginsNot, Starts, Found}
use Rattle.query.proofs.Lists.{Turns}
use Rattle.query.proofs.TestsLemmas.{words_differ}
use Rattle.query.proofs.Units.{unit_word, names_head}

-- the elements of GROUPING SETS as a list
to_elements : {ts r : List Token} {xs : List ElementTree} → Separated comma SpellsElement ts xs r → SpellsElements ts (elements_of xs) r
to_elements (last h) = last_element h
to_elements (next h more) = next_element h (to_elements more)

from_elements : {ts r : List Token} {es : ElementTrees} → SpellsElements ts es r → (xs : List ElementTree) × (es ≡ elements_of xs) × Separated comma SpellsElement ts xs r
from_elements (last_element {e = e} h) = (e ∷ [], refl, last h)
from_elements (next_element {e = e} h more) = let m = from_elements more in (e ∷ m.0, ap (MoreElements e) m.1, next h m.2)

module _ (ts more : List Token) where
  pub element_empty : ts ≡ lparen ∷ rparen ∷ more → Found (Starts SpellsElement Any ts) Empty more
  element_empty e = record {
    is = record { spells = subst (λ v. SpellsElement v Empty more) (sym e) empty; apart = tt };
    only = λ x r s. inside s.spells e;
  } where
    inside : {us r : List Token} {x : ElementTree} → SpellsElement us x r → us ≡ lparen ∷ rparen ∷ more → (x ≡ Empty) × (r ≡ more)
    inside empty f = (refl, cc)
    inside (unit (one (name {n = n} free))) f = absurd (let bad : Word n ≡ lparen = cc in cc)
    inside (unit (several {ts = us} h)) f = absurd (names_head h more (let same : us ≡ rparen ∷ more = cc in same))
    inside (rollup h) f = absurd (let bad : ROLLUP ≡ lparen = cc in cc)
    inside (cube h) f = absurd (let bad : CUBE ≡ lparen = cc in cc)
    inside (sets h) f = absurd (let bad : GROUPING ≡ lparen = cc in cc)

  pub element_rollup : ts ≡ ROLLUP ∷ lparen ∷ more → Turns (Starts SpellsElement Any ts) (λ us r. Separated comma SpellsUnit more us (rparen ∷ r)) Rollup
  element_rollup e = record {
    to = λ us r h. record { spells = subst (λ v. SpellsElement v (Rollup us) r) (sym e) (rollup h); apart = tt };
    from = λ x r s. inside s.spells e;
  } where
    inside : {vs r : List Token} {x : ElementTree} → SpellsElement vs x r → vs ≡ ROLLUP ∷ lparen ∷ more → (us : List (List (List ℕ))) × (x ≡ Rollup us) × Separated comma SpellsUnit more us (rparen ∷ r)
    inside empty f = absurd (let bad : lparen ≡ ROLLUP = cc in cc)
    inside (unit h) f = absurd (unit_word h (codes "ROLLUP") (lparen ∷ more) refl f)
    inside {r = r} (rollup {ts = vs} {us = us} h) f = let same : vs ≡ more = cc in (us, refl, subst (λ v. Separated comma SpellsUnit v us (rparen ∷ r)) same h)
    inside (cube h) f = absurd (let bad : CUBE ≡ ROLLUP = cc in cc)
    inside (sets h) f = absurd (let bad : GROUPING ≡ ROLLUP = cc in cc)

  pub element_cube : ts ≡ CUBE ∷ lparen ∷ more → Turns (Starts SpellsElement Any ts) (λ us r. Separated comma SpellsUnit more us (rparen ∷ r)) Cube
  element_cube e = record {
    to = λ us r h. record { spells = subst (λ v. SpellsElement v (Cube us) r) (sym e) (cube h); apart = tt };
    from = λ x r s. inside s.spells e;
  } where
    inside : {vs r : List Token} {x : ElementTree} → SpellsElement vs x r → vs ≡ CUBE ∷ lparen ∷ more → (us : List (List (List ℕ))) × (x ≡ Cube us) × Separated comma SpellsUnit more us (rparen ∷ r)
    inside empty f = absurd (let bad : lparen ≡ CUBE = cc in cc)
    inside (unit h) f = absurd (unit_word h (codes "CUBE") (lparen ∷ more) refl f)
    inside (rollup h) f = absurd (let bad : ROLLUP ≡ CUBE = cc in cc)
    inside {r = r} (cube {ts = vs} {us = us} h) f = let same : vs ≡ more = cc in (us, refl, subst (λ v. Separated comma SpellsUnit v us (rparen ∷ r)) same h)
    inside (sets h) f = absurd (let bad : GROUPING ≡ CUBE = cc in cc)

  pub element_sets : ts ≡ GROUPING ∷ SETS ∷ lparen ∷ more → Turns (Starts SpellsElement Any ts) (λ xs r. Separated comma SpellsElement more xs (rparen ∷ r)) (λ xs. Sets (elements_of xs))
  element_sets e = record {
    to = λ xs r h. record { spells = subst (λ v. SpellsElement v (Sets (elements_of xs)) r) (sym e) (sets (to_elements h)); apart = tt };
    from = λ x r s. inside s.spells e;
  } where
    inside : {vs r : List Token} {x : ElementTree} → SpellsElement vs x r → vs ≡ GROUPING ∷ SETS ∷ lparen ∷ more → (xs : List ElementTree) × (x ≡ Sets (elements_of xs)) × Separated comma SpellsElement more xs (rparen ∷ r)
    inside empty f = absurd (let bad : lparen ≡ GROUPING = cc in cc)
    inside (unit h) f = absurd (unit_word h (codes "GROUPING") (SETS ∷ lparen ∷ more) refl f)
    inside (rollup h) f = absurd (let bad : ROLLUP ≡ GROUPING = cc in cc)
    inside (cube h) f = absurd (let bad : CUBE ≡ GROUPING = cc in cc)
    inside {r = r} (sets {ts = vs} {es = es} h) f =
        let same : vs ≡ more = cc in
        let m = from_elements h in
        (m.0, ap Sets m.1, subst (λ v. Separated comma SpellsElement v m.0 (rparen ∷ r)) same m.2)

-- behind GROUPING SETS (
pub sets_behind : (more : List Token) → Turns (Starts SpellsElement Any (GROUPING ∷ SETS ∷ lparen ∷ more)) (λ xs r. Separated comma SpellsElement more xs (rparen ∷ r)) (λ xs. Sets (elements_of xs))
sets_behind more = element_sets (GROUPING ∷ SETS ∷ lparen ∷ more) more refl

pub element_unit : (ts : List Token) → IsPlain ts → Turns (Starts SpellsElement Any ts) (Starts SpellsUnit Any ts) OneUnit
element_unit ts others = record {
  to = λ u r h. record { spells = unit h.spells; apart = tt };
  from = λ x r s. inside s.spells others;
} where
  inside : {us r : List Token} {x : ElementTree} → SpellsElement us x r → IsPlain us → (u : List (List ℕ)) × (x ≡ OneUnit u) × Starts SpellsUnit Any us u r
  inside (empty {rest}) f = absurd (f.no_empty rest refl)
  inside (unit {u = u} h) f = (u, refl, record { spells = h; apart = tt })
  inside (rollup {ts = vs} h) f = absurd (f.no_rollup vs refl)
  inside (cube {ts = vs} h) f = absurd (f.no_cube vs refl)
  inside (sets {ts = vs} h) f = absurd (f.no_sets vs refl)

-- elements do not begin with DISTINCT
element_head : {ts r : List Token} {e : ElementTree} → SpellsElement ts e r → BeginsNot DISTINCT ts
element_head empty more f = let bad : lparen ≡ DISTINCT = cc in cc
element_head (unit h) more f = unit_word h (codes "DISTINCT") more refl f
element_head (rollup {ts = us} h) more f = words_differ (codes "ROLLUP") (codes "DISTINCT") (lparen ∷ us) more refl f
element_head (cube {ts = us} h) more f = words_differ (codes "CUBE") (codes "DISTINCT") (lparen ∷ us) more refl f
element_head (sets {ts = us} h) more f = words_differ (codes "GROUPING") (codes "DISTINCT") (SETS ∷ lparen ∷ us) more refl f

pub elements_head : {ts r : List Token} {es : List ElementTree} → Separated comma SpellsElement ts es r → BeginsNot DISTINCT ts
elements_head (last h) = element_head h
elements_head (next h more) = element_head h
