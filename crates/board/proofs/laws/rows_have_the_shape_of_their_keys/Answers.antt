use Rattle.std.proofs.Common.{ap, ◌∙◌}
use Rattle.cells.specs.Tables.{keyed_rows}
use Rattle.trie.specs.Shapes.{shape_of}
use Rattle.board.proofs.ShapesLemmas.{keys_of_rows, once}
use Rattle.board.proofs.laws.rows_have_the_shape_of_their_keys.Goals as goal

pub returns : goal.returns
returns g c = λ rs left.
    c.a_map_has_the_shape_of_its_keys.ensures (keyed_rows rs) (once rs left) ∙ ap (shape_of g.H.KeyHash.hash_of) (keys_of_rows rs)
