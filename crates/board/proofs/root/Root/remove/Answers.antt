use Rattle.std.proofs.Common.{◌∙◌, ap}
use Rattle.std.specs.FinMap.{remove}
use Rattle.cells.specs.CellOrder.{cell_cmp}
use Rattle.cells.specs.SameKeys.{exact_cells}
use Rattle.trie.specs.Maps.{map_of}
use Rattle.cells.specs.Tables.{Rows}
use Rattle.board.proofs.root.Root.remove.Goals as goal

pub of-requires : goal.of-requires
of-requires g c = rw c.in_ok-rows.ensures.map (c.entries_still_rise.ensures.remove c.self.inside.rows c.args.key.now c.self.invariant)

pub returns : goal.returns
returns g c =
    c.of.ensures ∙ ap (map_of cell_cmp) c.in_ok-rows.ensures.map
    ∙ c.entries_are_a_map.ensures.remove c.self.inside.rows c.args.key.now c.self.invariant exact_cells ∙ ap (λ (r : Rows). remove r c.args.key.now) c.self.view_is
