use Rattle.script.specs.Givens.{givens_of}
use Rattle.script.proofs.ChangesLemmas.{ruled_unheard}
use Rattle.script.proofs.SessionsLemmas.{stands_unheard}
use Rattle.script.proofs.standing.Standing.leave.Goals as goal

pub returns-clause-ruled : goal.returns-clause-ruled
returns-clause-ruled g c =
    ruled_unheard g.H.KeyHash.hash_of (givens_of c.args.setup.now) c.args.self.now.lines.items c.args.line.now c.requires.unheard

pub returns-clause-stands : goal.returns-clause-stands
returns-clause-stands g c =
    stands_unheard (givens_of c.args.setup.now) c.args.self.now.lines.items c.args.line.now c.args.self.now.desk c.args.self.now.number c.requires.stands c.requires.unheard
    _ _ _ c.count.ensures.desk c.count.ensures.lines c.count.ensures.number
