use Rattle.std.proofs.Common.{◌∙◌, arith}
use Rattle.aggs.proofs.DifferingLemmas.{both_held, number_held}
use Rattle.cells.specs.CellOrder.{cell_cmp}
use Rattle.trie.specs.Digits.{digit_order}
use Rattle.aggs.proofs.distinct.CountDistinct.with_cells.Goals as goal

pub merge-requires-clause-room : goal.merge-requires-clause-room
merge-requires-clause-room g c =
    let first = number_held c.self.inside.cells c.args.self.now _ c.self.view_is (c.entries_are_a_map.ensures.len c.self.inside.cells c.self.invariant) in
    let second = number_held c.other.inside.cells c.args.other.now _ c.other.view_is (c.entries_are_a_map.ensures.len c.other.inside.cells c.other.invariant) in
    omega (arith, first, second, c.requires)

pub returns : goal.returns
returns g c = c.holding.ensures
    ∙ both_held (digit_order g.H.KeyHash.hash_of cell_cmp) c.entries_are_a_map.ensures.value
    c.self.inside.cells c.other.inside.cells c.in_ok-cells.cells c.args.self.now c.args.other.now
    c.self.view_is c.other.view_is c.in_ok-cells.ensures.map
