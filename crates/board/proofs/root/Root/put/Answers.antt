use Rattle.std.proofs.Common.{◌≡◌, ◌∙◌, ap, sym, arith, length, rules}
use Rattle.std.specs.FinMap.{insert, len}
use Rattle.cells.specs.CellOrder.{cell_cmp}
use Rattle.cells.specs.SameKeys.{exact_cells}
use Rattle.trie.specs.Digits.{digit_order}
use Rattle.trie.specs.Entries.{with_pair}
use Rattle.trie.specs.Maps.{map_of}
use Rattle.cells.specs.Tables.{Rows}
use Rattle.board.proofs.root.Root.put.Goals as goal

pub put-requires : goal.put-requires
put-requires g c =
    let many : length c.self.inside.rows ≡ len c.args.self.now =
    sym (c.entries_are_a_map.ensures.len c.self.inside.rows c.self.invariant) ∙ ap (λ (r : Rows). len r) c.self.view_is in
    omega (arith, many, c.requires)

-- whatever the key is
pub of-requires : goal.of-requires
of-requires g c = rw c.in_ok-rows.ensures.map (c.entries_still_rise.ensures.put c.self.inside.rows _ _ c.self.invariant)

pub returns : goal.returns
returns g c =
    let held_now : c.in_ok-rows.rows ≡ with_pair (digit_order g.H.KeyHash.hash_of cell_cmp) c.args.row.key c.args.row c.self.inside.rows = search rules in
    c.of.ensures ∙ ap (map_of cell_cmp) held_now ∙ c.entries_are_a_map.ensures.put c.self.inside.rows c.args.row.key c.args.row exact_cells
    ∙ ap (λ (r : Rows). insert r c.args.row.key c.args.row) c.self.view_is
