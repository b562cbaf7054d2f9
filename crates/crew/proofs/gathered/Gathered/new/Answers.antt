use Rattle.std.proofs.Common.{refl}
use Rattle.crew.proofs.GatheredLemmas.{gathers_none}
use Rattle.crew.proofs.gathered.Gathered.new.Goals as goal

pub returns : goal.returns
returns g c = gathers_none c.args.plan.now _ c.in_ok-folding.ensures c.in_ok-columns.ensures.none c.in_ok-columns.ensures.serve refl
