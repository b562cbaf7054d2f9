use Rattle.std.proofs.Common.{map}
use Rattle.olap_core.proofs.PartsLemmas.{CutSoFar}
use Rattle.olap_core.proofs.parts.parts_of.Given as goal

abbrev pub invariant-loop-length : goal.invariant-loop-length
invariant-loop-length l = CutSoFar l.lengths l.bytes (map (λ p. p.items) l.parts.items) l.left l.length-index
