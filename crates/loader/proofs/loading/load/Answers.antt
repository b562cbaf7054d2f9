use Rattle.std.proofs.Common.{ap, map, subst, ◌∙◌}
use Rattle.loader.specs.Loads.{LoadsTaken}
use Rattle.loader.specs.Parts.{part_of, rows_of_parts}
use Rattle.loader.specs.Pieces.{rows_of_pieces}
use Rattle.loader.specs.Shards.{takes}
use Rattle.loader.proofs.PiecesLemmas.{pieces_say}
use Rattle.loader.proofs.ShardLemmas.{whole_loads}
use Rattle.loader.proofs.loading.load.Goals as goal

pub returns-clause-loaded : goal.returns-clause-loaded
returns-clause-loaded g c =
    let h = g.H.KeyHash.hash_of in
    let t = c.args.schema.now in
    let shard = c.whole-shard.result in
    whole_loads h shard (rows_of_parts t (map part_of c.args.parts.now)) c.load_pieces.result c.whole-shard.ensures
    (subst (λ said. LoadsTaken (takes h shard) said c.load_pieces.result)
    (ap (rows_of_pieces t 0) c.as_slice.ensures.value ∙ pieces_say t (map part_of c.args.parts.now) c.in_ok-pieces.pieces.items c.in_ok-pieces.ensures.cut)
    c.load_pieces.ensures.loaded)
