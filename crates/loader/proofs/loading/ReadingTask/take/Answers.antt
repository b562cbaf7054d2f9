use Rattle.std.proofs.Common.{◌<◌, length, refl, subst, sym}
use Rattle.std.specs.List.{AllZip}
use Rattle.std.specs.Prelude.{[], ◌∷◌, ◌++◌, slice_index_or}
use Rattle.loader.specs.Listed.{IsFound}
use Rattle.loader.specs.Loads.{IsContent}
use Rattle.loader.specs.Pieces.{rows_of_piece}
use Rattle.loader.specs.Shards.{takes}
use Rattle.loader.specs.declared.pieces.Piece.{Piece}
use Rattle.loader.proofs.ListedLemmas.{zip_more}
use Rattle.loader.proofs.OrderLemmas.{at_last}
use Rattle.loader.proofs.loading.ReadingTask.take.Goals as goal

pub returns : goal.returns
returns g c = λ places made.
    let h = g.H.KeyHash.hash_of in
    let mine = takes h c.args.self.now.shard.now in
    let t = c.args.self.now.schema.now in
    let pieces = c.args.self.now.pieces.now in
    let place = c.args.place in
    let content = c.in_ok-content.content in
    let read : (other : Piece) → IsContent h mine t (rows_of_piece t (slice_index_or pieces place other)) content =
    λ other. subst (λ piece. IsContent h mine t (rows_of_piece t piece) content) (c.piece-piece.ensures other) c.in_ok-content.ensures in
    subst (AllZip (IsFound h mine t pieces) (places ++ place ∷ [])) (sym c.in_ok-push.ensures.items)
    (zip_more (IsFound h mine t pieces) places c.args.made.now.items place _ made (record { at = refl; reads = read }))

pub piece-piece-requires : goal.piece-piece-requires
piece-piece-requires g c = at_last (λ n. n < length c.args.self.now.pieces.now) c.requires.places c.args.place c.requires.share.below
