use Rattle.std.specs.Str.Lines.{lines}
use Rattle.script.specs.Givens.{givens_of}
use Rattle.script.proofs.HereLemmas.{Made}
use Rattle.script.proofs.ProgressLemmas.{last_first}
use Rattle.script.proofs.here.blocks_here.Given as goal

abbrev pub invariant-loop-bytes : goal.invariant-loop-bytes
invariant-loop-bytes g l = Made g.H.KeyHash-1.hash_of (givens_of l.setup) (last_first l.yielded) l.bytes-iterator (lines l.script) l.text.items l.desk l.number
