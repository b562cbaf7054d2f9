use Rattle.std.proofs.Common.{map}
use Rattle.std.specs.Str.Lines.{lines}
use Rattle.loader.specs.Shards.{takes}
use Rattle.script.proofs.ProgressLemmas.{last_first}
use Rattle.script.proofs.TellingLemmas.{Goes}
use Rattle.script.proofs.telling.tell_lines.Given as goal

abbrev pub invariant-loop-bytes : goal.invariant-loop-bytes
invariant-loop-bytes g l = Goes (takes g.H.KeyHash-1.hash_of l.sharing.shard.now) (map (λ p. p.items) l.sharing.parts.now) l.sharing.how.now.rows (last_first l.yielded) l.bytes-iterator (lines l.script) l.tolds.items l.desk l.number
