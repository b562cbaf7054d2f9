use Rattle.std.proofs.Common.{Some, refl, rules}
use Rattle.std.proofs.lemmas.Result.{IfOk-weaker}
use Rattle.cells.specs.Fitting.{IsRowOf}
use Rattle.board.specs.Editions.{schema}
use Rattle.script.specs.Deeds.{deed}
use Rattle.script.specs.Givens.{givens_of}
use Rattle.script.proofs.ChangesLemmas.{change_refused}
use Rattle.script.proofs.StatementsLemmas.{deed_read}
use Rattle.script.proofs.UpdatesLemmas.{executes_delete, executes_publish, executes_put}
use Rattle.script.proofs.change.change_kept.Goals as goal

pub lay-requires : goal.lay-requires
lay-requires g c =
    let row : IsRowOf (schema c.args.keeper.now) c.in-Ok-Put.row = rw (← c.schema.ensures) (rw c.in-Ok-Put.field-0-is at c.in-Ok-Put.ensures.fits) in
    search (rules, row)

pub returns-in-Ok-Put : goal.returns-in-Ok-Put
returns-in-Ok-Put g c =
    let does = deed_read c.args.line.now c.schema.ensures c.in-Ok-Put.ensures.exact c.in-Ok-Put.field-0-is in
    IfOk-weaker c.lay.result _ _ (λ rule puts number. executes_put g.H.KeyHash.hash_of (givens_of c.args.setup.now) c.args.line.now number c.args.keeper.now c.lay.new.table c.in-Ok-Put.row _ does (puts c.args.setup.now.manner.now.form number)) c.lay.ensures.step

pub returns-in_ok-delete-in-Ok-Delete : goal.returns-in_ok-delete-in-Ok-Delete
returns-in_ok-delete-in-Ok-Delete g c = λ number.
    let does = deed_read c.args.line.now c.schema.ensures c.in-Ok-Delete.ensures.exact c.in-Ok-Delete.field-0-is in
    executes_delete g.H.KeyHash.hash_of (givens_of c.args.setup.now) c.args.line.now number c.args.keeper.now c.in-Ok-Delete.key does c.delete.new.table _ c.in_ok-delete-in-Ok-Delete.ensures.draft refl

pub returns-in_ok-publish-in-Ok-Publish : goal.returns-in_ok-publish-in-Ok-Publish
returns-in_ok-publish-in-Ok-Publish g c = λ number.
    let does = deed_read c.args.line.now c.schema.ensures c.in-Ok-Publish.ensures.exact c.in-Ok-Publish.field-0-is in
    executes_publish g.H.KeyHash.hash_of (givens_of c.args.setup.now) c.args.line.now number c.args.keeper.now c.publish.new.keeper _ does c.in_ok-publish-in-Ok-Publish.ensures.published refl

pub returns-in-Err : goal.returns-in-Err
returns-in-Err g c =
    IfOk-weaker c.rule_of.result _ _
    (λ rule ruled number. change_refused g.H.KeyHash.hash_of (givens_of c.args.setup.now) c.args.line.now (Some c.args.keeper.now) rule (ruled (deed (Some (schema c.args.keeper.now)) c.args.line.now) (c.requires.changes (Some (schema c.args.keeper.now))) (rw c.schema.ensures at c.in-Err.ensures.exact)) number)
    c.rule_of.ensures
