use Rattle.std.proofs.Common.{◌∙◌, Ok, ap}
use Rattle.script.specs.Statements.{first_deed}
use Rattle.script.proofs.TellingLemmas.{first_declares}
use Rattle.script.proofs.telling.tell_first.Goals as goal

pub returns-in-Ok-clause-step : goal.returns-in-Ok-clause-step
returns-in-Ok-clause-step g c =
    first_declares _ _ _ c.args.line.now c.in-Ok-Some.schema c.in-Ok.ledger (c.in-Ok-Some.ensures ∙ ap (λ o. Ok (first_deed o)) c.in-Ok-Some.field-0-is) (rw c.rows.ensures.rows at c.in-Ok.ensures.begun)
