use Rattle.std.proofs.Common.{refl}
use Rattle.script.specs.Givens.{givens_of}
use Rattle.script.proofs.ChangesLemmas.{ruled_heard, stands_changed}
use Rattle.script.proofs.SessionsLemmas.{may_publish}
use Rattle.script.proofs.standing.Standing.change_heard.Goals as goal

pub change-requires-clause-publishable : goal.change-requires-clause-publishable
change-requires-clause-publishable g c = λ κs outlives.
    may_publish (givens_of c.args.setup.now) c.args.self.now.lines.items c.args.line.now c.args.self.now.desk c.args.self.now.number _ c.requires.stands c.requires.heard refl

pub returns-clause-ruled : goal.returns-clause-ruled
returns-clause-ruled g c =
    ruled_heard g.H.KeyHash.hash_of (givens_of c.args.setup.now) c.args.self.now.lines.items c.args.line.now c.args.self.now.desk c.change.new.desk c.args.self.now.number c.in_ok-rule.rule c.requires.stands c.requires.heard c.requires.changes c.in_ok-rule.ensures

pub returns-clause-stands : goal.returns-clause-stands
returns-clause-stands g c =
    stands_changed g.H.KeyHash.hash_of (givens_of c.args.setup.now) c.args.self.now.lines.items c.args.line.now c.args.self.now.desk c.change.new.desk c.args.self.now.number c.in_ok-rule.rule c.requires.stands c.requires.heard c.in_ok-rule.ensures
    _ _ _ c.count.ensures.desk c.count.ensures.lines c.count.ensures.number
