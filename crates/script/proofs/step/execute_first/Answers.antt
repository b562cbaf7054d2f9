use Rattle.std.proofs.Common.{◌∙◌, Ok, ap}
use Rattle.script.specs.Givens.{givens_of}
use Rattle.script.specs.Statements.{first_deed}
use Rattle.script.proofs.UpdatesLemmas.{executes_declare}
use Rattle.script.proofs.step.execute_first.Goals as goal

pub returns-in-Ok-clause-step : goal.returns-in-Ok-clause-step
returns-in-Ok-clause-step g c =
    executes_declare g.H.KeyHash.hash_of (givens_of c.args.setup.now) c.args.line.bytes.now c.args.line.number c.in-Ok-Some.schema c.in-Ok.keeper _
    (c.in-Ok-Some.ensures ∙ ap (λ o. Ok (first_deed o)) c.in-Ok-Some.field-0-is) (rw c.rows.ensures.rows at c.in-Ok.ensures.begun) c.new-in-Ok.ensures.items
