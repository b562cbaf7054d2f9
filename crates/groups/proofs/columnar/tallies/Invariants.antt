use Rattle.std.proofs.Common.{◌≡◌, List, length, map, take}
use Rattle.std.specs.List.{AllZip}
use Rattle.cells.specs.Values.{RowValue}
use Rattle.columns.specs.Columns.{Hold}
use Rattle.groups.specs.Columnar.{TalliesRows}
use Rattle.groups.specs.Numbered.{picked_rows}
use Rattle.groups.proofs.columnar.tallies.Given as goal

abbrev pub invariant-loop-at : goal.invariant-loop-at
invariant-loop-at g l = record {
  made : length l.tallies.items ≡ l._at;
  all : (all : List RowValue) → Hold all l.columns →
      AllZip (TalliesRows (picked_rows all l.rows) l.groups.numbers.items (length l.groups.tuples.items)) (take l._at l.aggregations) (map (λ accs. accs.items) l.tallies.items);
}
