use Rattle.std.proofs.Common.{[], ap, ◌∙◌}
use Rattle.aggs.proofs.DifferingLemmas.{all_held}
use Rattle.aggs.specs.Values.{present}
use Rattle.cells.specs.CellOrder.{cell_cmp}
use Rattle.cells.specs.SameKeys.{exact_cells}
use Rattle.trie.specs.Maps.{map_of}
use Rattle.aggs.proofs.distinct.CountDistinct.of_cells.Goals as goal

pub returns : goal.returns
returns g c =
    c.holding.ensures ∙ all_held c.in_ok-pairs.pairs.items c.in_ok-cells.cells (present c.args.cells.items) c.in_ok-pairs.ensures
    (ap (map_of cell_cmp) c.in_ok-cells.ensures.map ∙ c.entries_are_a_map.ensures.puts [] c.in_ok-pairs.pairs.items exact_cells)
