use Rattle.std.proofs.Common.{◌≡◌, drop, map, string_bytes}
use Rattle.olap.specs.Commands.{have_shard}
use Rattle.olap.proofs.asked.have_shard.Given as goal

abbrev pub invariant-loop-word : goal.invariant-loop-word
invariant-loop-word l = have_shard (map string_bytes l.words) ≡ have_shard (map string_bytes (drop l.word-index l.words))
