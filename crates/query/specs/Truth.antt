-- The truth of a predicate, by what its leaves stand for, in three values (ISO/IEC 9075-2:1999, 8.1 <predicate> and the truth
-- tables of its <boolean value expression>).
use Rattle.std.specs.Prelude.{ℕ, Bool, true, false, List, [], ◌∷◌, if◌then◌else◌, slice_index_or}
use Rattle.std.specs.Ordering.{is_lt, is_le, is_gt, is_ge, is_eq, is_ne}
use Rattle.std.specs.declared.cmp.Ordering.{Ordering}
use Rattle.cells.specs.TotalOrder.{total_cmp}
use Rattle.cells.specs.declared.total.Total.{Total}
use Rattle.cells.specs.declared.total.Total.TheVariants as total
use Rattle.query.specs.Trees.{PredicateTree, Or, And, Not, Holds, PredicateTrees, NoPredicates, MorePredicates}
use Rattle.query.specs.declared.truth.Truth.{Truth}
use Rattle.query.specs.declared.truth.Truth.TheVariants.{True, False, Unknown}
use Rattle.query.specs.declared.test.Test.{Test}
use Rattle.query.specs.declared.test.Test.TheVariants.{Compare, IsNull, Between, In}
use Rattle.query.specs.declared.test.Literal.{Literal}
use Rattle.query.specs.declared.test.Literal.TheVariants as literal
use Rattle.query.specs.declared.test.Operand.{Operand}
use Rattle.query.specs.declared.test.Operand.TheVariants as operand
use Rattle.query.specs.declared.test.Comparison.{Comparison}
use Rattle.query.specs.declared.test.Comparison.TheVariants.{Equal, NotEqual, Less, LessOrEqual, Greater, GreaterOrEqual}

abbrev pub and_truth : Truth → Truth → Truth
and_truth True b = b
and_truth False b = False
and_truth Unknown True = Unknown
and_truth Unknown False = False
and_truth Unknown Unknown = Unknown

abbrev pub or_truth : Truth → Truth → Truth
or_truth True b = True
or_truth False b = b
or_truth Unknown True = True
or_truth Unknown False = Unknown
or_truth Unknown Unknown = Unknown

abbrev pub not_truth : Truth → Truth
not_truth True = False
not_truth False = True
not_truth Unknown = Unknown

-- NOT of it, where NOT stands there
abbrev pub negated : Bool → Truth → Truth
negated true t = not_truth t
negated false t = t

abbrev pub literal_total : Literal → Total
literal_total (literal.Int n) = total.Int n
literal_total (literal.Text t) = total.Text t

-- whether the order of two values is as the comparison wants it
abbrev pub meets : Comparison → Ordering → Bool
meets Equal o = is_eq o
meets NotEqual o = is_ne o
meets Less o = is_lt o
meets LessOrEqual o = is_le o
meets Greater o = is_gt o
meets GreaterOrEqual o = is_ge o

-- 8.2 <comparison predicate>: unknown where a value is NULL
abbrev pub compared : Total → Comparison → Total → Truth
compared total.Null c b = Unknown
compared a c total.Null = Unknown
compared a c b = if meets c (total_cmp a b) then True else False

-- 8.7 <null predicate>: never unknown
abbrev pub is_null : Total → Truth
is_null total.Null = True
is_null (total.Int n) = False
is_null (total.Text t) = False

-- 8.3 <between predicate>: x >= low AND x <= high
abbrev pub between : Total → Total → Total → Truth
between x low high = and_truth (compared x GreaterOrEqual low) (compared x LessOrEqual high)

-- 8.4 <in predicate>: x = l1 OR .. OR x = lk
abbrev pub among : Total → List Literal → Truth
among x [] = False
among x (l ∷ ls) = or_truth (compared x Equal (literal_total l)) (among x ls)

-- ---- where each leaf, as the name of a column, stands for a value
module _ {C : Type 0} (value : C → Total) where
  abbrev pub value_of : Operand C → Total
  value_of (operand.Column c) = value c
  value_of (operand.Literal l) = literal_total l

  abbrev pub test_truth : Test C → Truth
  test_truth (Compare a c b) = compared (value_of a) c (value_of b)
  test_truth (IsNull a not) = negated not (is_null (value_of a))
  test_truth (Between a low high not) = negated not (between (value_of a) (value_of low) (value_of high))
  test_truth (In a ls not) = negated not (among (value_of a) ls)

  abbrev mutual
    pub truth_by : PredicateTree (Test C) → Truth
    truth_by (Or ps) = any_truth ps
    truth_by (And ps) = all_truth ps
    truth_by (Not p) = not_truth (truth_by p)
    truth_by (Holds t) = test_truth t

    -- p1 OR p2 OR ..
    pub any_truth : PredicateTrees (Test C) → Truth
    any_truth NoPredicates = False
    any_truth (MorePredicates p ps) = or_truth (truth_by p) (any_truth ps)

    -- p1 AND p2 AND ..
    pub all_truth : PredicateTrees (Test C) → Truth
    all_truth NoPredicates = True
    all_truth (MorePredicates p ps) = and_truth (truth_by p) (all_truth ps)

-- ---- where a leaf is the index of a value in a list
-- the value at the index, and NULL where there is none
abbrev pub value_at : List Total → ℕ → Total
value_at values index = slice_index_or values index total.Null

abbrev pub truth : PredicateTree (Test ℕ) → List Total → Truth
truth p values = truth_by (value_at values) p
