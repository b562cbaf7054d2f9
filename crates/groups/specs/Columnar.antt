-- Groups made from columns.
use Rattle.std.specs.Prelude.{ℕ, List, [], length, map, slice_index_or}
use Rattle.std.specs.List.{range_with_len}
use Rattle.aggs.specs.Accs.{acc_of}
use Rattle.aggs.specs.declared.acc.Acc.{Acc}
use Rattle.aggs.specs.declared.acc.Kind.TheVariants as kind
use Rattle.cells.specs.Values.{RowValue}
use Rattle.cells.specs.declared.cell.Cell.{Cell}
use Rattle.groups.specs.Bags.{Group}
use Rattle.groups.specs.Groups.{column_of}
use Rattle.groups.specs.Tallying.{AreTallied}
use Rattle.groups.specs.declared.aggregation.Aggregation.{Aggregation}

-- the aggregate at i
abbrev pub aggregation_at : List Aggregation → ℕ → Aggregation
aggregation_at aggregations i = slice_index_or aggregations i (record { kind = kind.CountRows; column = 0 })

module _ {H : Type 0} where
  -- the accumulators of the aggregate over these rows, which are numbered
  abbrev pub TalliesRows : List RowValue → List ℕ → ℕ → Aggregation → List (Acc H) → Type 0
  TalliesRows rows numbers count a accs = AreTallied a.kind count numbers (column_of a.column rows) accs

  abbrev pub no_acc : Acc H
  no_acc = acc_of kind.CountRows []

  -- the accumulators of a number: one of each list
  abbrev pub accs_at : ℕ → List (List (Acc H)) → List (Acc H)
  accs_at n tallies = map (λ accs. slice_index_or accs n no_acc) tallies

  -- the groups of numbered tuples, and of accumulators of each number
  abbrev pub groups_from : List (List Cell) → List (List (Acc H)) → List (Group H)
  groups_from tuples tallies = map (λ n. (slice_index_or tuples n [], accs_at n tallies)) (range_with_len 0 (length tuples))
