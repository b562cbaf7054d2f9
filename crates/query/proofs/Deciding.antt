-- Whether tokens begin with each phrase of the grammar, and with which. What decides goes over the tokens as the readers
-- do, but in the logic, where memory is never wanting.
use Rattle.std.proofs.Common.{◌≡◌, ◌≢◌, ℕ, zero, suc, ◌<◌, ◌≤◌, Bool, true, false, List, [], ◌∷◌, length, Option, Some, None, inl, inr, refl, ap, arith}
use Rattle.std.specs.Prelude.{codes}
use Rattle.std.proofs.lemmas.Bool.{cases_Bool}
use Rattle.cells.specs.declared.token.Token.{Token}
use Rattle.cells.specs.declared.token.Token.TheVariants.{Word}
use Rattle.query.specs.Ends.{SpellsBy, SpellsEnd, SpellsFrom, SpellsGrouped, SpellsLast, SpellsTail, Whole}
use Rattle.query.specs.Grammar.{Separated, SpellsElement, SpellsFactor, SpellsItem, SpellsLiteral, SpellsName, SpellsOperand, SpellsPredicate, SpellsPrimary, SpellsQuery, SpellsTerm, SpellsTest, SpellsUnit, AND, BETWEEN, BY, CUBE, FROM, GROUP, GROUPING, HAVING, IN, IS, NOT, NULL, OR, ROLLUP, SELECT, SETS, WHERE, comma, lparen, rparen}
use Rattle.query.specs.Leaves.{begins_leaf, item_begins, name_begins}
use Rattle.query.specs.Phrases.{NullAfter, RangeAfter, TestAfter, begins_literal, comparison_at, item_at, literal_at, name_at}
use Rattle.query.specs.Reading.{AfterAnd, AfterOr, Any, BeginsNot, BeginsNotCall, Ends, Marked, Starts}
use Rattle.query.specs.Trees.{Empty}
use Rattle.query.specs.Values.{no_having}
use Rattle.query.specs.declared.test.Comparison.{Comparison}
use Rattle.query.specs.declared.test.Operand.{Operand}
use Rattle.query.specs.declared.test.Test.TheVariants as test
use Rattle.query.proofs.Decisions.{Begins, BeginsAs, BeginsBoth, Decided, begins_call, begins_close, begins_comma, begins_open, begins_then, begins_word, computed_phrase, ended, list_decided, no_phrase, one_phrase, split_decided, turned}
use Rattle.query.proofs.Elements.{element_cube, element_empty, element_rollup, element_sets, element_unit}
use Rattle.query.proofs.Ends.{by_mark, from_split, grouped_none, grouped_split, having_by, having_none, having_other, predicate_end, predicate_no_end, predicate_none, query_none, query_split, tail_none, tail_split}
use Rattle.query.proofs.ItemsLemmas.{item_grouping}
use Rattle.query.proofs.PhrasesLemmas.{item_computes, literal_computes, name_computes}
use Rattle.query.proofs.Predicates.{factor_not, factor_plain, or_ends_and, paren_ends, predicate_terms, primary_parens, primary_test, term_factors}
use Rattle.query.proofs.Shorter.{shorter_element, shorter_factor, shorter_item, shorter_literal, shorter_name, shorter_term, shorter_unit}
use Rattle.query.proofs.TestsLemmas.{marked, null_found, null_nothing, operand_leaf, operand_literal, range_list, range_nothing, range_split, test_compare, test_is, test_range, test_split, unmarked}
use Rattle.query.proofs.Units.{unit_one, unit_several}

comma_may : (r : List Token) → Ends comma Any (rparen ∷ r)
comma_may r = record { no_more = λ us e. let bad : rparen ≡ comma = cc in cc; apart = tt }

any_list : {X : Type 0} (Sp : List Token → X → List Token → Type 0) → ((ts : List Token) (x : X) (rest : List Token) → Sp ts x rest → length rest < length ts)
    → ((ts : List Token) → Decided (Starts Sp Any ts)) → (ts : List Token) → Decided (Starts (Separated comma Sp) (Ends comma Any) ts)
any_list Sp shorter one ts = list_decided comma begins_comma Sp Any (λ us. tt) shorter (length ts) (λ us le. one us) ts (omega arith)

list_in : {X : Type 0} (Sp : List Token → X → List Token → Type 0) → ((ts : List Token) (x : X) (rest : List Token) → Sp ts x rest → length rest < length ts)
    → ((ts : List Token) → Decided (Starts Sp Any ts)) → (ts : List Token) → Decided (λ xs r. Separated comma Sp ts xs (rparen ∷ r))
list_in Sp shorter one ts = ended (Separated comma Sp) (Ends comma Any) rparen begins_close ts comma_may (any_list Sp shorter one ts)

-- ---- names, items, units
name_decided : (ts : List Token) → Decided (Starts SpellsName Any ts)
name_decided ts = computed_phrase SpellsName ts (name_at ts) (name_computes ts)

item_by : (ts : List Token) → BeginsBoth GROUPING lparen ts → Decided (Starts SpellsItem Any ts)
item_by ts (inl h) = turned (item_grouping ts h.0 h.1) (list_in SpellsName shorter_name name_decided h.0)
item_by ts (inr other) = computed_phrase SpellsItem ts (item_at ts) (item_computes ts other)

item_decided : (ts : List Token) → Decided (Starts SpellsItem Any ts)
item_decided ts = item_by ts (begins_call (codes "GROUPING") ts)

unit_by : (ts : List Token) → Begins lparen ts → Decided (Starts SpellsUnit Any ts)
unit_by ts (inl h) = turned (unit_several ts h.0 h.1) (list_in SpellsName shorter_name name_decided h.0)
unit_by ts (inr other) = turned (unit_one ts other) (name_decided ts)

unit_decided : (ts : List Token) → Decided (Starts SpellsUnit Any ts)
unit_decided ts = unit_by ts (begins_open ts)

-- ---- elements
begins_sets : (ts : List Token) → BeginsAs (λ more. GROUPING ∷ SETS ∷ lparen ∷ more) ts
begins_sets ts = begins_then GROUPING (λ more. SETS ∷ lparen ∷ more) (begins_word (codes "GROUPING")) (begins_call (codes "SETS")) ts

-- the element, by those that stand in its GROUPING SETS
element_by : (ts : List Token) → ((more : List Token) → length more < length ts → Decided (λ xs r. Separated comma SpellsElement more xs (rparen ∷ r))) → Decided (Starts SpellsElement Any ts)
element_by ts inner = first (begins_then lparen (λ more. rparen ∷ more) begins_open begins_close ts) where
  fourth : ((more : List Token) → ts ≢ lparen ∷ rparen ∷ more) → BeginsNotCall ROLLUP ts → BeginsNotCall CUBE ts
      → BeginsAs (λ more. GROUPING ∷ SETS ∷ lparen ∷ more) ts → Decided (Starts SpellsElement Any ts)
  fourth e r c (inl h) = turned (element_sets ts h.0 h.1) (inner h.0 (omega (arith, ap length h.1)))
  fourth e r c (inr s) = turned (element_unit ts (record { no_empty = e; no_rollup = r; no_cube = c; no_sets = s })) (unit_decided ts)

  third : ((more : List Token) → ts ≢ lparen ∷ rparen ∷ more) → BeginsNotCall ROLLUP ts → BeginsBoth CUBE lparen ts → Decided (Starts SpellsElement Any ts)
  third e r (inl h) = turned (element_cube ts h.0 h.1) (list_in SpellsUnit shorter_unit unit_decided h.0)
  third e r (inr c) = fourth e r c (begins_sets ts)

  second : ((more : List Token) → ts ≢ lparen ∷ rparen ∷ more) → BeginsBoth ROLLUP lparen ts → Decided (Starts SpellsElement Any ts)
  second e (inl h) = turned (element_rollup ts h.0 h.1) (list_in SpellsUnit shorter_unit unit_decided h.0)
  second e (inr r) = third e r (begins_call (codes "CUBE") ts)

  first : BeginsBoth lparen rparen ts → Decided (Starts SpellsElement Any ts)
  first (inl h) = one_phrase Empty h.0 (element_empty ts h.0 h.1)
  first (inr e) = second e (begins_call (codes "ROLLUP") ts)

elements_within : (most : ℕ) → ((us : List Token) → length us ≤ most → Decided (Starts SpellsElement Any us)) → (ts : List Token) → length ts ≤ most → Decided (Starts (Separated comma SpellsElement) (Ends comma Any) ts)
elements_within most one ts le = list_decided comma begins_comma SpellsElement Any (λ us. tt) shorter_element most one ts le

element_within : (n : ℕ) (ts : List Token) → length ts ≤ n → Decided (Starts SpellsElement Any ts)
element_within zero ts le = element_by ts (λ more lt. absurd (omega arith))
element_within (suc n) ts le = element_by ts (λ more lt.
    ended (Separated comma SpellsElement) (Ends comma Any) rparen begins_close more comma_may (elements_within n (element_within n) more (omega arith)))

elements_decided : (ts : List Token) → Decided (Starts (Separated comma SpellsElement) (Ends comma Any) ts)
elements_decided ts = elements_within (length ts) (element_within (length ts)) ts (omega arith)

-- ---- tests
literal_decided : (ts : List Token) → Decided (Starts SpellsLiteral Any ts)
literal_decided ts = computed_phrase SpellsLiteral ts (literal_at ts) (literal_computes ts)

marked_of : (w : List ℕ) (us : List Token) → (stands : Bool) × (vs : List Token) × Marked (Word w) us stands vs
marked_of w us = after (begins_word w us) where
  after : Begins (Word w) us → (stands : Bool) × (vs : List Token) × Marked (Word w) us stands vs
  after (inl h) = (true, h.0, marked (Word w) us h.0 h.1)
  after (inr other) = (false, us, unmarked (Word w) us other)

-- ---- operands, by their leaves
module _ {C : Type 0} {Leaf : List Token → C → List Token → Type 0} (begins : (ts : List Token) (c : C) (rest : List Token) → Leaf ts c rest → begins_leaf ts ≡ true)
    (shorter_leaf : (ts : List Token) (c : C) (rest : List Token) → Leaf ts c rest → length rest < length ts) (leaf_decided : (ts : List Token) → Decided (Starts Leaf Any ts)) where
  operand_decided : (ts : List Token) → Decided (Starts (SpellsOperand Leaf) Any ts)
  operand_decided ts = elim (cases_Bool (begins_literal ts)) [
    | inl is ↦ turned (operand_literal begins ts is) (literal_decided ts)
    | inr other ↦ turned (operand_leaf ts other) (leaf_decided ts)
  ]

  module _ (a : Operand C) (us : List Token) where
    null_by : (not : Bool) (vs : List Token) → Marked NOT us not vs → Begins NULL vs → Decided (NullAfter a us)
    null_by not vs m (inl h) = one_phrase (test.IsNull a not) h.0 (null_found a us not vs m h.0 h.1)
    null_by not vs m (inr other) = no_phrase (null_nothing a us not vs m other)

    null_decided : Decided (NullAfter a us)
    null_decided = let m = marked_of (codes "NOT") us in null_by m.0 m.1 m.2 (begins_word (codes "NULL") m.1)

    module _ (not : Bool) where
      list_by : BeginsNot BETWEEN us → BeginsBoth IN lparen us → Decided (RangeAfter Leaf a not us)
      list_by b (inl h) = turned (range_list a us not h.0 h.1) (list_in SpellsLiteral shorter_literal literal_decided h.0)
      list_by b (inr i) = no_phrase (range_nothing a us not b i)

      range_by : Begins BETWEEN us → Decided (RangeAfter Leaf a not us)
      range_by (inl h) = split_decided (range_split a us not h.0 h.1) (ended (SpellsOperand Leaf) Any AND (begins_word (codes "AND")) h.0 (λ r. tt) (operand_decided h.0)) (λ low. operand_decided)
      range_by (inr b) = list_by b (begins_call (codes "IN") us)

      range_decided : Decided (RangeAfter Leaf a not us)
      range_decided = range_by (begins_word (codes "BETWEEN") us)

  module _ (a : Operand C) (us : List Token) where
    is_by : comparison_at us ≡ None → Begins IS us → Decided (TestAfter Leaf a us)
    is_by e (inl h) = turned (test_is a us h.0 h.1) (null_decided a h.0)
    is_by e (inr other) = let m = marked_of (codes "NOT") us in turned (test_range a us e other m.0 m.1 m.2) (range_decided a m.1 m.0)

    compare_by : (o : Option (Comparison × List Token)) → comparison_at us ≡ o → Decided (TestAfter Leaf a us)
    compare_by None e = is_by e (begins_word (codes "IS") us)
    compare_by (Some x) e = turned (test_compare a us x.0 x.1 e) (operand_decided x.1)

  test_decided : (ts : List Token) → Decided (Starts (SpellsTest Leaf) Any ts)
  test_decided ts = split_decided (test_split ts) (operand_decided ts) (λ a us. compare_by a us (comparison_at us) refl)

  -- ---- predicates, by their primaries
  module _ (most : ℕ) (primary : (us : List Token) → length us ≤ most → Decided (Starts (SpellsPrimary Leaf) Any us)) where
    factor_by : (ts : List Token) → length ts ≤ most → Begins NOT ts → Decided (Starts (SpellsFactor Leaf) Any ts)
    factor_by ts le (inl h) = turned (factor_not begins ts h.0 h.1) (primary h.0 (omega (arith, ap length h.1)))
    factor_by ts le (inr other) = turned (factor_plain ts other) (primary ts le)

    factor : (ts : List Token) → length ts ≤ most → Decided (Starts (SpellsFactor Leaf) Any ts)
    factor ts le = factor_by ts le (begins_word (codes "NOT") ts)

    term : (ts : List Token) → length ts ≤ most → Decided (Starts (SpellsTerm Leaf) AfterAnd ts)
    term ts le = turned (term_factors ts) (list_decided AND (begins_word (codes "AND")) (SpellsFactor Leaf) Any (λ us. tt) (shorter_factor shorter_leaf) most factor ts le)

    predicate_within : (ts : List Token) → length ts ≤ most → Decided (Starts (SpellsPredicate Leaf) AfterOr ts)
    predicate_within ts le = turned (predicate_terms ts) (list_decided OR (begins_word (codes "OR")) (SpellsTerm Leaf) AfterAnd or_ends_and (shorter_term shorter_leaf) most term ts le)

  primary_by : (ts : List Token) → ((more : List Token) → length more < length ts → Decided (λ p r. SpellsPredicate Leaf more p (rparen ∷ r))) → Begins lparen ts → Decided (Starts (SpellsPrimary Leaf) Any ts)
  primary_by ts inner (inl h) = turned (primary_parens begins ts h.0 h.1) (inner h.0 (omega (arith, ap length h.1)))
  primary_by ts inner (inr other) = turned (primary_test ts other) (test_decided ts)

  primary_within : (n : ℕ) (ts : List Token) → length ts ≤ n → Decided (Starts (SpellsPrimary Leaf) Any ts)
  primary_within zero ts le = primary_by ts (λ more lt. absurd (omega arith)) (begins_open ts)
  primary_within (suc n) ts le = primary_by ts (λ more lt. ended (SpellsPredicate Leaf) AfterOr rparen begins_close more paren_ends (predicate_within n (primary_within n) more (omega arith))) (begins_open ts)

  predicate_decided : (ts : List Token) → Decided (Starts (SpellsPredicate Leaf) AfterOr ts)
  predicate_decided ts = predicate_within (length ts) (primary_within (length ts)) ts (omega arith)

-- ---- the parts that end the tokens
last_by : (ts : List Token) → Decided (Starts (SpellsPredicate SpellsItem) AfterOr ts) → Decided (Whole SpellsLast ts)
last_by ts (one_phrase p [] h) = one_phrase p [] (predicate_end ts p [] h refl)
last_by ts (one_phrase p (u ∷ us) h) = no_phrase (predicate_no_end ts p (u ∷ us) h (λ e. let bad : u ∷ us ≡ [] = e in cc))
last_by ts (no_phrase h) = no_phrase (predicate_none ts h)

last_decided : (ts : List Token) → Decided (Whole SpellsLast ts)
last_decided ts = last_by ts (predicate_decided item_begins shorter_item item_decided ts)

having_by_word : (ts : List Token) → ts ≢ [] → Begins HAVING ts → Decided (Whole SpellsEnd ts)
having_by_word ts some (inl h) = turned (having_by ts h.0 h.1) (last_decided h.0)
having_by_word ts some (inr other) = no_phrase (having_other ts some other)

having_decided : (ts : List Token) → Decided (Whole SpellsEnd ts)
having_decided [] = one_phrase no_having [] (having_none [] refl)
having_decided (t ∷ ts) = having_by_word (t ∷ ts) (λ e. let bad : t ∷ ts ≡ [] = e in cc) (begins_word (codes "HAVING") (t ∷ ts))

by_decided : (ts : List Token) → Decided (Starts SpellsBy (Ends comma Any) ts)
by_decided ts = let m = marked_of (codes "DISTINCT") ts in turned (by_mark ts m.0 m.1 m.2) (elements_decided m.1)

grouped_by_words : (ts : List Token) → BeginsBoth GROUP BY ts → Decided (Whole SpellsGrouped ts)
grouped_by_words ts (inl h) = split_decided (grouped_split ts h.0 h.1) (by_decided h.0) (λ groups. having_decided)
grouped_by_words ts (inr other) = turned (grouped_none ts other) (having_decided ts)

grouped_decided : (ts : List Token) → Decided (Whole SpellsGrouped ts)
grouped_decided ts = grouped_by_words ts (begins_then GROUP (λ more. BY ∷ more) (begins_word (codes "GROUP")) (begins_word (codes "BY")) ts)

module _ (ts : List Token) where
  tail_by : Begins WHERE ts → Decided (Whole SpellsTail ts)
  tail_by (inl h) = split_decided (tail_split ts h.0 h.1) (predicate_decided name_begins shorter_name name_decided h.0) (λ p. grouped_decided)
  tail_by (inr other) = turned (tail_none ts other) (grouped_decided ts)

  tail_decided : Decided (Whole SpellsTail ts)
  tail_decided = tail_by (begins_word (codes "WHERE") ts)

from_decided : (ts : List Token) → Decided (Whole SpellsFrom ts)
from_decided ts = split_decided (from_split ts) (name_decided ts) (λ table. tail_decided)

comma_ends : (r : List Token) → Ends comma Any (FROM ∷ r)
comma_ends r = record { no_more = λ us e. let bad : FROM ≡ comma = cc in cc; apart = tt }

module _ (ts : List Token) where
  query_by : Begins SELECT ts → Decided (Whole SpellsQuery ts)
  query_by (inl h) = split_decided (query_split ts h.0 h.1) (ended (Separated comma SpellsItem) (Ends comma Any) FROM (begins_word (codes "FROM")) h.0 comma_ends (any_list SpellsItem shorter_item item_decided h.0)) (λ items. from_decided)
  query_by (inr other) = no_phrase (query_none ts other)

  pub query_decided : Decided (Whole SpellsQuery ts)
  query_decided = query_by (begins_word (codes "SELECT") ts)
