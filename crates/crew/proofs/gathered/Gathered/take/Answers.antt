use Rattle.std.proofs.Common.{◌+◌, ap, refl}
use Rattle.crew.proofs.GatheredLemmas.{gathers_more}
use Rattle.crew.proofs.gathered.Gathered.take.Goals as goal

pub returns : goal.returns
returns g c = λ plan rows it.
    gathers_more plan c.args.self.now _ c.args.piece.now rows refl c.in_ok-laid.ensures.same c.in_ok-laid.ensures.held (ap (λ n. c.args.self.now.count + n) c.len.ensures) it
