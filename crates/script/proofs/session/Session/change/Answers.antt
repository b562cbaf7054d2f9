use Rattle.std.proofs.Common.{Option, Some, subst}
use Rattle.cells.specs.declared.refused.Refused.{Refused}
use Rattle.script.specs.Changes.{IsRuled}
use Rattle.script.specs.Givens.{givens_of}
use Rattle.script.specs.Sessions.{Hearing}
use Rattle.script.proofs.session.Session.change.Goals as goal

pub returns-in-Ok-Some-clause-takes : goal.returns-in-Ok-Some-clause-takes
returns-in-Ok-Some-clause-takes g c =
    let setup = c.self.inside.setup in
    let ruled = subst (λ (rule : Option Refused). IsRuled g.H.KeyHash.hash_of (givens_of setup) c.self.inside.standing.lines.items c.args.line.now rule) c.in-Ok-Some.field-0-is c.in-Ok-Some.ensures.ruled in
    subst (λ (session : Hearing). IsRuled g.H.KeyHash.hash_of session.givens session.lines c.args.line.now (Some c.in-Ok-Some.rule)) c.self.view_is ruled
