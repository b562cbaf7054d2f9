use Rattle.std.proofs.Common.{◌∙◌, [], ap}
use Rattle.std.proofs.lemmas.Result.{IfOk-weaker}
use Rattle.cells.specs.CellOrder.{cell_cmp}
use Rattle.cells.specs.SameKeys.{exact_cells}
use Rattle.trie.specs.Maps.{map_of}
use Rattle.loader.proofs.tries.trie_of.Goals as goal

pub returns : goal.returns
returns g c =
    IfOk-weaker c.from_pairs.result _ _ (λ trie is. ap (map_of cell_cmp) is ∙ c.entries_are_a_map.ensures.puts [] c.args.rows.items exact_cells)
    c.from_pairs.ensures.map
