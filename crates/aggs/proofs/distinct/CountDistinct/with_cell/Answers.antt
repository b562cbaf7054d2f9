use Rattle.std.proofs.Common.{◌≡◌, ◌∙◌, ap, arith, rules}
use Rattle.aggs.proofs.DifferingLemmas.{number_held, one_more_held}
use Rattle.cells.specs.CellOrder.{cell_cmp}
use Rattle.cells.specs.SameKeys.{exact_cells}
use Rattle.trie.specs.Digits.{digit_order}
use Rattle.trie.specs.Entries.{with_pair}
use Rattle.trie.specs.Maps.{map_of}
use Rattle.aggs.proofs.distinct.CountDistinct.with_cell.Goals as goal

pub put-requires : goal.put-requires
put-requires g c =
    let many = number_held c.self.inside.cells c.args.self.now _ c.self.view_is (c.entries_are_a_map.ensures.len c.self.inside.cells c.self.invariant) in
    omega (arith, many, c.requires)

pub returns : goal.returns
returns g c =
    let now : c.in_ok-cells.cells ≡ with_pair (digit_order g.H.KeyHash.hash_of cell_cmp) c.args.cell.now tt c.self.inside.cells = search rules in
    c.holding.ensures ∙ one_more_held c.self.inside.cells c.in_ok-cells.cells c.args.self.now c.args.cell.now c.self.view_is
    (ap (map_of cell_cmp) now ∙ c.entries_are_a_map.ensures.put c.self.inside.cells c.args.cell.now tt exact_cells)
