use Rattle.std.proofs.Common.{ap, map}
use Rattle.olap_core.proofs.PartsLemmas.{cut_start}
use Rattle.olap_core.proofs.parts.parts_of.Goals as goal

pub loop-length-init : goal.loop-length-init
loop-length-init c = cut_start c.args.lengths.now c.args.bytes.now _ (ap (map (λ p. p.items)) c.in_ok-parts.ensures.items)
