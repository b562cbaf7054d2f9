use Rattle.std.proofs.Common.{◌≡◌, ◌∙◌, ap, arith, length, sym}
use Rattle.std.specs.FinMap.{len}
use Rattle.cells.specs.CellOrder.{cell_cmp}
use Rattle.cells.specs.Tables.{Rows, laid_over}
use Rattle.trie.specs.Digits.{digit_order}
use Rattle.trie.specs.Maps.{map_of}
use Rattle.board.proofs.OverLemmas.{merged_over}
use Rattle.board.proofs.root.Root.with_rows.Goals as goal

pub merge-requires-clause-room : goal.merge-requires-clause-room
merge-requires-clause-room g c =
    let mine : length c.self.inside.rows ≡ len c.args.self.now =
    sym (c.entries_are_a_map.ensures.len c.self.inside.rows c.self.invariant) ∙ ap (λ (r : Rows). len r) c.self.view_is in
    let theirs = c.entries_are_a_map.ensures.len c.args.later.now c.keys_rise.ensures in
    omega (arith, mine, theirs, c.requires)

pub returns : goal.returns
returns g c =
    c.of.ensures
    ∙ merged_over (digit_order g.H.KeyHash.hash_of cell_cmp) c.entries_are_a_map.ensures.value c.later_puts_lie_over.ensures.stands
    c.self.inside.rows c.args.later.now c.in_ok-rows.rows c.in_ok-rows.ensures.map
    ∙ ap (laid_over (map_of cell_cmp c.args.later.now)) c.self.view_is
