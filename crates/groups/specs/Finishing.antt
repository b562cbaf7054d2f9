-- How the rows of a report come from groups: group by group, and item by item with the next accumulator for each aggregate.
use Rattle.std.specs.Prelude.{ℕ, pos, List, [], ◌∷◌}
use Rattle.std.specs.List.{flat_map}
use Rattle.aggs.specs.Accs.{acc_total}
use Rattle.aggs.specs.declared.acc.Acc.{Acc}
use Rattle.cells.specs.TotalOrder.{cell_total}
use Rattle.cells.specs.declared.cell.Cell.{Cell}
use Rattle.cells.specs.declared.total.Total.{Total}
use Rattle.cells.specs.declared.total.Total.TheVariants as total
use Rattle.groups.specs.Groups.{cell_at_index, grouping, index_in, shown}
use Rattle.query.specs.Plans.{PlanTree}
use Rattle.query.specs.declared.item.Item.{Item}
use Rattle.query.specs.declared.item.Item.TheVariants as item

module _ {H : Type 0} where
  -- the value of the first accumulator, and those behind it
  abbrev pub first_total : List (Acc H) → Total
  first_total [] = total.Null
  first_total (a ∷ accs) = acc_total a

  abbrev pub behind_first : List (Acc H) → List (Acc H)
  behind_first [] = []
  behind_first (a ∷ accs) = accs

  -- the value of an item: an aggregate's is that of the first accumulator
  abbrev pub value_by : List ℕ → List Cell → Item ℕ → List (Acc H) → Total
  value_by set tuple (item.Column c) accs = cell_total (cell_at_index tuple (index_in set c))
  value_by set tuple (item.Grouping columns) accs = total.Int (pos (grouping set columns))
  value_by set tuple item.CountRows accs = first_total accs
  value_by set tuple (item.Count c) accs = first_total accs
  value_by set tuple (item.CountDistinct c) accs = first_total accs
  value_by set tuple (item.Sum c) accs = first_total accs
  value_by set tuple (item.Min c) accs = first_total accs
  value_by set tuple (item.Max c) accs = first_total accs

  -- the accumulators that are left for the items behind it
  abbrev pub left_by : Item ℕ → List (Acc H) → List (Acc H)
  left_by (item.Column c) accs = accs
  left_by (item.Grouping c) accs = accs
  left_by item.CountRows accs = behind_first accs
  left_by (item.Count c) accs = behind_first accs
  left_by (item.CountDistinct c) accs = behind_first accs
  left_by (item.Sum c) accs = behind_first accs
  left_by (item.Min c) accs = behind_first accs
  left_by (item.Max c) accs = behind_first accs

  -- the accumulators that are left for the items behind these
  abbrev pub left_by_all : List (Item ℕ) → List (Acc H) → List (Acc H)
  left_by_all [] accs = accs
  left_by_all (i ∷ items) accs = left_by_all items (left_by i accs)

  -- the row of a group
  abbrev pub row_by : List ℕ → List Cell → List (Item ℕ) → List (Acc H) → List Total
  row_by set tuple [] accs = []
  row_by set tuple (i ∷ items) accs = value_by set tuple i accs ∷ row_by set tuple items (left_by i accs)

  -- the rows of groups, in their order, but of those that HAVING drops
  abbrev pub rows_by : List ℕ → PlanTree → List (List Cell × List (Acc H)) → List (List Total)
  rows_by set plan groups = flat_map (λ g. shown plan (row_by set g.0 plan.items g.1)) groups
