use Rattle.std.proofs.Common.{◌≡◌, length}
use Rattle.std.specs.Iterator.Adapters.{zip_first, zip_second}
use Rattle.std.specs.Slice.Iter.{iter_rest}
use Rattle.std.specs.Vec.Iter.{into_iter_items, into_iter_len}
use Rattle.loader.specs.Listed.{AreRead}
use Rattle.loader.specs.Pieces.{rows_of_pieces}
use Rattle.loader.specs.Shards.{takes}
use Rattle.loader.specs.Shares.{in_shares}
use Rattle.loader.proofs.ListedLemmas.{Listed}
use Rattle.loader.proofs.loading.rows_of.Given as goal

abbrev pub invariant-loop-piece : goal.invariant-loop-piece
invariant-loop-piece g l = record {
  listed : Listed g.H.KeyHash.hash_of (takes g.H.KeyHash.hash_of l.shard) l.schema (rows_of_pieces l.schema 0 l.pieces) l.count (iter_rest (zip_first l.piece-iterator)) (in_shares l.rows.shares.items);
  read : AreRead g.H.KeyHash.hash_of (takes g.H.KeyHash.hash_of l.shard) l.schema (iter_rest (zip_first l.piece-iterator)) (into_iter_items (zip_second l.piece-iterator));
  counted : into_iter_len (zip_second l.piece-iterator) ≡ length (into_iter_items (zip_second l.piece-iterator));
}
