use Rattle.std.proofs.Common.{ap, rules, subst}
use Rattle.script.specs.Desks.{IsBehind}
use Rattle.script.specs.Givens.{givens_of}
use Rattle.script.specs.Viewers.{HasAttended, asked_of, turns_of, viewing_of}
use Rattle.script.proofs.TailsLemmas.{attended_at, delivers_at, delivers_none, delivers_turned, delivers_undeclared}
use Rattle.script.proofs.gallery.Gallery.write_tail.Goals as goal

pub returns-in_default-clause-tail : goal.returns-in_default-clause-tail
returns-in_default-clause-tail g c = λ hash on before stands.
    delivers_none hash (givens_of c.args.setup.now) on before (turns_of (asked_of c.args.setup.now.viewing) c.args.self.now.stage c.args.self.now.onlookers) g.O.Out.taken g.O.Out.faults c.args.out.now _ (asked_of c.args.setup.now.viewing) (ap asked_of c.in_default.is)

pub returns-in_default-desk-clause-tail : goal.returns-in_default-desk-clause-tail
returns-in_default-desk-clause-tail g c = λ hash on before stands.
    delivers_undeclared hash (givens_of c.args.setup.now) on before (turns_of (asked_of c.args.setup.now.viewing) c.args.self.now.stage c.args.self.now.onlookers) g.O.Out.taken g.O.Out.faults c.args.out.now c.write_refused.new.out c.write_refused.result (viewing_of c.in-Some.viewing)
    (asked_of c.args.setup.now.viewing) c.args.desk.now (ap asked_of c.in-Some.is) (search rules) stands c.write_refused.ensures.delivered

pub write_begun-requires-clause-attended : goal.write_begun-requires-clause-attended
write_begun-requires-clause-attended g c κs within =
    attended_at (asked_of c.args.setup.now.viewing) (viewing_of c.in-Some.viewing) c.in-Some-desk.keeper c.args.self.now.stage c.args.self.now.audience.watches c.args.self.now.onlookers (ap asked_of c.in-Some.is) c.in-Begun.is
    (subst (λ d. HasAttended c.args.setup.now.manner.now (asked_of c.args.setup.now.viewing) d c.args.self.now.stage c.args.self.now.audience.watches c.args.self.now.onlookers) c.in-Some-desk.is c.requires.attended)

pub returns-in-Begun-clause-tail : goal.returns-in-Begun-clause-tail
returns-in-Begun-clause-tail g c = λ hash on before stands.
    delivers_at hash (givens_of c.args.setup.now) on before g.O.Out.taken g.O.Out.faults c.args.out.now c.write_begun.new.out c.write_begun.result (viewing_of c.in-Some.viewing) (asked_of c.args.setup.now.viewing) c.args.self.now.stage c.args.self.now.onlookers
    (ap asked_of c.in-Some.is) c.in-Begun.is (c.write_begun.ensures.tail hash on before (subst (IsBehind (givens_of c.args.setup.now) before) c.in-Some-desk.is stands))

pub returns-in-Turned-clause-tail : goal.returns-in-Turned-clause-tail
returns-in-Turned-clause-tail g c = λ hash on before stands.
    delivers_turned hash (givens_of c.args.setup.now) on before (turns_of (asked_of c.args.setup.now.viewing) c.args.self.now.stage c.args.self.now.onlookers) g.O.Out.taken g.O.Out.faults c.args.out.now c.write_refused-in-Turned.new.out c.write_refused-in-Turned.result (viewing_of c.in-Some.viewing)
    (asked_of c.args.setup.now.viewing) c.in-Some-desk.keeper c.args.self.now.stage c.args.self.now.audience.watches c.args.self.now.onlookers c.in-Turned.fault (ap asked_of c.in-Some.is) c.in-Turned.is
    (subst (λ d. HasAttended c.args.setup.now.manner.now (asked_of c.args.setup.now.viewing) d c.args.self.now.stage c.args.self.now.audience.watches c.args.self.now.onlookers) c.in-Some-desk.is c.requires.attended)
    (subst (IsBehind (givens_of c.args.setup.now) before) c.in-Some-desk.is stands) c.write_refused-in-Turned.ensures.delivered
