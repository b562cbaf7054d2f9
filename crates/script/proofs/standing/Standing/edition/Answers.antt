use Rattle.std.proofs.Common.{◌∙◌}
use Rattle.script.proofs.ChangesLemmas.{edition_none, edition_there}
use Rattle.script.proofs.standing.Standing.edition.Goals as goal

pub returns-in-Some : goal.returns-in-Some
returns-in-Some g c = λ givens stands. c.edition.ensures ∙ edition_there givens c.args.self.now.lines.items c.args.self.now.desk c.args.self.now.number c.in-Some.keeper stands c.in-Some.is

pub returns-in-None : goal.returns-in-None
returns-in-None g c = λ givens stands. edition_none givens c.args.self.now.lines.items c.args.self.now.desk c.args.self.now.number stands c.in-None.is
