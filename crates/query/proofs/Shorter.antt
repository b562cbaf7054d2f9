-- What follows a phrase is shorter than the tokens that begin with it.
use Rattle.std.proofs.Common.{◌≡◌, ◌<◌, ◌≤◌, List, ◌∷◌, length, ap, arith, Result, Ok, Err}
use Rattle.std.specs.Prelude.{IfOk, MatchResult}
use Rattle.cells.specs.declared.token.Token.{Token}
use Rattle.query.specs.Grammar.{Separated, last, next, SpellsComparison, equal, not_equal, less, less_or_equal, greater, greater_or_equal, SpellsElement, empty, unit, rollup, cube, sets, SpellsElements, last_element, next_element, SpellsFactor, plain, not, SpellsFactors, last_factor, next_factor, SpellsItem, column, grouping, count_rows, count, count_distinct, sum, min, max, SpellsLiteral, number, text, SpellsName, name, SpellsNot, without, with, SpellsOperand, leaf_operand, literal_operand, SpellsPredicate, one_term, or, SpellsPrimary, parens, tested, SpellsTerm, one_factor, and, SpellsTerms, last_term, next_term, SpellsTest, compare, is_null, between, among, SpellsUnit, one, several}

-- what follows the token behind a phrase
pub shorter_closed : {A Y E : Type 0} (t : Token) (ts : List Token) (view : Y → List Token) (value : A) (behind : List Token) (Fault : E → Type 0) (r : Result (A × Y) E)
    → length behind < length ts → MatchResult r (λ x. (x.0 ≡ value) × (behind ≡ t ∷ view x.1)) Fault → IfOk r (λ x. length (view x.1) < length ts)
shorter_closed t ts view value behind Fault (Ok x) fewer h = omega (arith, fewer, ap length h.1)
shorter_closed t ts view value behind Fault (Err e) fewer h = tt

-- a list of phrases, each of which is shorter
pub shorter_list : {X : Type 0} {sep : Token} {Sp : List Token → X → List Token → Type 0} → ((ts : List Token) (x : X) (rest : List Token) → Sp ts x rest → length rest < length ts)
    → {ts rest : List Token} {xs : List X} → Separated sep Sp ts xs rest → length rest < length ts
shorter_list shorter (last {ts = ts} {rest = rest} {x = x} h) = shorter ts x rest h
shorter_list {sep = sep} shorter (next {ts = ts} {us = us} {x = x} h more) = let first = shorter ts x (sep ∷ us) h in omega (arith, first, shorter_list shorter more)

pub shorter_name : (ts : List Token) (n : _) (rest : List Token) → SpellsName ts n rest → length rest < length ts
shorter_name ts n rest (name free) = omega arith

pub shorter_item : (ts : List Token) (i : _) (rest : List Token) → SpellsItem ts i rest → length rest < length ts
shorter_item ts i rest (column free) = omega arith
shorter_item ts i rest (grouping h) = omega (arith, shorter_list shorter_name h)
shorter_item ts i rest count_rows = omega arith
shorter_item ts i rest (count free) = omega arith
shorter_item ts i rest (count_distinct free) = omega arith
shorter_item ts i rest (sum free) = omega arith
shorter_item ts i rest (min free) = omega arith
shorter_item ts i rest (max free) = omega arith

pub shorter_unit : (ts : List Token) (u : _) (rest : List Token) → SpellsUnit ts u rest → length rest < length ts
shorter_unit ts u rest (one {n = n} h) = shorter_name ts n rest h
shorter_unit ts u rest (several h) = omega (arith, shorter_list shorter_name h)

mutual
  pub shorter_element : (ts : List Token) (e : _) (rest : List Token) → SpellsElement ts e rest → length rest < length ts
  shorter_element ts e rest empty = omega arith
  shorter_element ts e rest (unit {u = u} h) = shorter_unit ts u rest h
  shorter_element ts e rest (rollup h) = omega (arith, shorter_list shorter_unit h)
  shorter_element ts e rest (cube h) = omega (arith, shorter_list shorter_unit h)
  shorter_element ts e rest (sets {ts = us} {es = es} h) = omega (arith, shorter_elements us es h)

  shorter_elements : {rest : List Token} (ts : List Token) (es : _) → SpellsElements ts es rest → length rest < length ts
  shorter_elements {rest} ts es (last_element {e = e} h) = shorter_element ts e rest h
  shorter_elements ts es (next_element {us = us} {e = e} {es = fs} h more) = let first = shorter_element ts e _ h in omega (arith, first, shorter_elements us fs more)

pub shorter_literal : (ts : List Token) (l : _) (rest : List Token) → SpellsLiteral ts l rest → length rest < length ts
shorter_literal ts l rest number = omega arith
shorter_literal ts l rest text = omega arith

shorter_comparison : {ts rest : List Token} {c : _} → SpellsComparison ts c rest → length rest < length ts
shorter_comparison equal = omega arith
shorter_comparison not_equal = omega arith
shorter_comparison less = omega arith
shorter_comparison less_or_equal = omega arith
shorter_comparison greater = omega arith
shorter_comparison greater_or_equal = omega arith

no_longer_not : {ts rest : List Token} {b : _} → SpellsNot ts b rest → length rest ≤ length ts
no_longer_not without = omega arith
no_longer_not with = omega arith

module _ {C : Type 0} {Leaf : List Token → C → List Token → Type 0} (shorter_leaf : (ts : List Token) (c : C) (rest : List Token) → Leaf ts c rest → length rest < length ts) where
  shorter_operand : {ts rest : List Token} {a : _} → SpellsOperand Leaf ts a rest → length rest < length ts
  shorter_operand {ts} {rest} (leaf_operand {c = c} h) = shorter_leaf ts c rest h
  shorter_operand {ts} {rest} (literal_operand {l = l} h) = shorter_literal ts l rest h

  shorter_test : {ts rest : List Token} {t : _} → SpellsTest Leaf ts t rest → length rest < length ts
  shorter_test (compare o c p) = omega (arith, shorter_operand o, shorter_comparison c, shorter_operand p)
  shorter_test (is_null o n) = omega (arith, shorter_operand o, no_longer_not n)
  shorter_test (between o n p q) = omega (arith, shorter_operand o, no_longer_not n, shorter_operand p, shorter_operand q)
  shorter_test (among o n h) = omega (arith, shorter_operand o, no_longer_not n, shorter_list shorter_literal h)

  mutual
    pub shorter_factor : (ts : List Token) (p : _) (rest : List Token) → SpellsFactor Leaf ts p rest → length rest < length ts
    shorter_factor ts p rest (plain h) = shorter_primary h
    shorter_factor ts p rest (not h) = omega (arith, shorter_primary h)

    shorter_primary : {ts rest : List Token} {p : _} → SpellsPrimary Leaf ts p rest → length rest < length ts
    shorter_primary (parens h) = omega (arith, shorter_predicate h)
    shorter_primary (tested h) = shorter_test h

    shorter_predicate : {ts rest : List Token} {p : _} → SpellsPredicate Leaf ts p rest → length rest < length ts
    shorter_predicate {ts} {rest} (one_term {p = p} h) = shorter_term ts p rest h
    shorter_predicate {ts} (or {us = us} {p = p} h more) = let first = shorter_term ts p _ h in omega (arith, first, shorter_terms more)

    pub shorter_term : (ts : List Token) (p : _) (rest : List Token) → SpellsTerm Leaf ts p rest → length rest < length ts
    shorter_term ts p rest (one_factor h) = shorter_factor ts p rest h
    shorter_term ts p rest (and {p = q} h more) = let first = shorter_factor ts q _ h in omega (arith, first, shorter_factors more)

    shorter_terms : {ts rest : List Token} {ps : _} → SpellsTerms Leaf ts ps rest → length rest < length ts
    shorter_terms {ts} {rest} (last_term {p = p} h) = shorter_term ts p rest h
    shorter_terms {ts} (next_term {p = p} h more) = let first = shorter_term ts p _ h in omega (arith, first, shorter_terms more)

    shorter_factors : {ts rest : List Token} {ps : _} → SpellsFactors Leaf ts ps rest → length rest < length ts
    shorter_factors {ts} {rest} (last_factor {p = p} h) = shorter_factor ts p rest h
    shorter_factors {ts} (next_factor {p = p} h more) = let first = shorter_factor ts p _ h in omega (arith, first, shorter_factors more)
