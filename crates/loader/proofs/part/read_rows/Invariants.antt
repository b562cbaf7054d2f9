use Rattle.std.proofs.Common.{◌≡◌, ◌+◌, length}
use Rattle.loader.specs.Parts.{rows_from}
use Rattle.loader.specs.Shards.{takes}
use Rattle.loader.specs.Shares.{lists}
use Rattle.loader.proofs.PartLemmas.{Reached}
use Rattle.loader.proofs.part.read_rows.Given as goal

abbrev pub invariant-loop-record : goal.invariant-loop-record
invariant-loop-record g l = record {
  reached : Reached g.H.KeyHash.hash_of (takes g.H.KeyHash.hash_of l.shard) l.schema (rows_from l.schema 1 l.fn.records) l.number l.records (lists l.rows.shares.items);
  counted : l.number + length l.records ≡ length l.fn.records + 1;
}

abbrev pub decreases-loop-record : goal.decreases-loop-record
decreases-loop-record g l = length l.records
