-- The queries of worked scripts, spelt rule by rule.
use Rattle.std.proofs.Common.{[], ◌∷◌, None, arith, false, refl}
use Rattle.std.specs.Prelude.{codes}
use Rattle.cells.specs.Scanning.{mark_at, token_at, word_at}
use Rattle.query.specs.Grammar.{column, count_rows, group_by, last, name, next, no_groups, no_where, one, query, rollup, without, without_having}
use Rattle.query.specs.Queries.{IsQuery}
use Rattle.query.specs.Trees.{Rollup}
use Rattle.query.specs.Values.{QueryTree, all_rows, no_having}
use Rattle.query.specs.declared.item.Item.TheVariants as item

abbrev pub count_query : QueryTree
count_query = record { items = item.CountRows ∷ []; table = codes "T"; condition = None; groups = all_rows; having = no_having }

pub counts : IsQuery (codes "SELECT COUNT(*) FROM T") count_query
unfolding token_at word_at mark_at
counts = record {
  tokens = _;
  has = record { short = omega arith; spelt = refl; shallow = refl };
  query = query (last count_rows) (name refl) no_where no_groups without_having;
  few = refl;
}

abbrev pub rollup_query : QueryTree
rollup_query = record {
  items = item.Column (codes "V") ∷ item.CountRows ∷ [];
  table = codes "T";
  condition = None;
  groups = record { distinct = false; elements = Rollup ((codes "V" ∷ []) ∷ []) ∷ [] };
  having = no_having;
}

pub rolls_up : IsQuery (codes "SELECT V, COUNT(*) FROM T GROUP BY ROLLUP (V)") rollup_query
unfolding token_at word_at mark_at
rolls_up = record {
  tokens = _;
  has = record { short = omega arith; spelt = refl; shallow = refl };
  query = query (next (column refl) (last count_rows)) (name refl) no_where (group_by without (last (rollup (last (one (name refl)))))) without_having;
  few = refl;
}
