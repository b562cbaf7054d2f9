use Rattle.std.proofs.Common.{ap, map, subst, ◌∙◌}
use Rattle.loader.specs.Loads.{LoadsTaken}
use Rattle.loader.specs.Parts.{part_of}
use Rattle.loader.specs.Pieces.{rows_of_pieces}
use Rattle.loader.specs.Shards.{takes}
use Rattle.loader.proofs.PiecesLemmas.{pieces_say}
use Rattle.loader.proofs.loading.load_shard_here.Goals as goal

pub returns-clause-loaded : goal.returns-clause-loaded
returns-clause-loaded g c =
    let t = c.args.schema.now in
    subst (λ said. LoadsTaken (takes g.H.KeyHash.hash_of c.args.shard.now) said c.load_pieces_here.result)
    (ap (rows_of_pieces t 0) c.as_slice.ensures.value ∙ pieces_say t (map part_of c.args.parts.now) c.in_ok-pieces.pieces.items c.in_ok-pieces.ensures.cut)
    c.load_pieces_here.ensures.loaded
