use Rattle.std.proofs.Common.{take}
use Rattle.loader.specs.Listed.{AreRead}
use Rattle.loader.specs.Shards.{takes}
use Rattle.loader.proofs.loading.read_here.Given as goal

abbrev pub invariant-loop-piece : goal.invariant-loop-piece
invariant-loop-piece g l = AreRead g.H.KeyHash.hash_of (takes g.H.KeyHash.hash_of l.shard) l.schema (take l.piece-index l.pieces) l.all.items
