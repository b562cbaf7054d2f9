use Rattle.std.proofs.Common.{[], false}
use Rattle.std.proofs.lemmas.List.{take_more}
use Rattle.loader.specs.Loads.{IsContent}
use Rattle.loader.specs.Pieces.{rows_of_piece}
use Rattle.loader.specs.Shards.{takes}
use Rattle.loader.specs.declared.pieces.Piece.{Piece}
use Rattle.loader.proofs.ListedLemmas.{zip_more}
use Rattle.loader.proofs.loading.read_here.Goals as goal

pub loop-piece-preserved : goal.loop-piece-preserved
loop-piece-preserved g c =
    let h = g.H.KeyHash.hash_of in
    let none : Piece = record { place = 0; part = 0; first = false; bytes = record { ref_ptr = (0, 0); now = [] } } in
    rw (c.in_ok-push.ensures.items, take_more c.args.pieces.now c.loop-piece.piece-index none c.loop-piece-test.true)
    (zip_more (λ piece found. IsContent h (takes h c.args.shard.now) c.args.schema.now (rows_of_piece c.args.schema.now piece) found.content) _ _ _ _ c.loop-piece.invariant c.in_ok-content.ensures)
