use Rattle.std.proofs.Common.{arith, refl}
use Rattle.cells.specs.Scanning.{mark_at, number_at, token_at, word_at}
use Rattle.query.specs.Grammar.{between, column, compare, cube, equal, greater, group_by, grouping, having, last, last_term, leaf_operand, literal_operand, name, next, no_where, number, one, one_factor, one_term, or, plain, query, rollup, sum, tested, where_predicate, without, without_having}
use Rattle.query.proofs.laws.worked_query.Goals as goal

pub returns-clause-sums : goal.returns-clause-sums
unfolding token_at word_at mark_at number_at
returns-clause-sums c = record {
  tokens = _;
  has = record { short = omega arith; spelt = refl; shallow = refl };
  query =
      query (next (column refl) (last (sum refl))) (name refl)
      (where_predicate (one_term (one_factor (plain (tested (compare (leaf_operand (name refl)) greater (literal_operand number)))))))
      (group_by without (last (cube (last (one (name refl)))))) without_having;
  few = refl;
}

pub returns-clause-regions : goal.returns-clause-regions
unfolding token_at word_at mark_at number_at
returns-clause-regions c = record {
  tokens = _;
  has = record { short = omega arith; spelt = refl; shallow = refl };
  query =
      query (next (column refl) (last (sum refl))) (name refl) no_where (group_by without (last (rollup (last (one (name refl))))))
      (having (or (one_factor (plain (tested (between (leaf_operand (sum refl)) without (literal_operand number) (literal_operand number)))))
      (last_term (one_factor (plain (tested (compare (leaf_operand (grouping (last (name refl)))) equal (literal_operand number))))))));
  few = refl;
}
