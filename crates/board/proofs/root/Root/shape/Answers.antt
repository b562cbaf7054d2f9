use Rattle.std.proofs.Common.{ap, sym, rules, ◌∙◌}
use Rattle.std.specs.FinMap.{keys}
use Rattle.trie.specs.Shapes.{shape_of}
use Rattle.cells.specs.Tables.{Rows}
use Rattle.board.proofs.root.Root.shape.Goals as goal

pub returns : goal.returns
returns g c =
    rw (← (sym (c.entries_are_a_map.ensures.shape c.self.inside.rows c.self.invariant)
    ∙ ap (λ (r : Rows). shape_of g.H.KeyHash.hash_of (keys r)) c.self.view_is)) (search rules)
