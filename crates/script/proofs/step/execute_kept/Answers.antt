use Rattle.std.proofs.Common.{◌≤◌, Some, arith, inl, length, rules, subst, sym}
use Rattle.std.proofs.lemmas.Result.{IfOk-weaker}
use Rattle.cells.specs.Fitting.{IsRowOf}
use Rattle.board.specs.Editions.{schema}
use Rattle.script.specs.Endings.{HasWorkers, loads}
use Rattle.script.specs.Givens.{givens_of}
use Rattle.script.specs.Limits.{script_limit}
use Rattle.script.proofs.CommandsLemmas.{listing_short}
use Rattle.script.proofs.RefusalsLemmas.{IsPlain, quiet_laid, quiet_loaded, quiet_refusal}
use Rattle.script.proofs.StatementsLemmas.{deed_read}
use Rattle.script.proofs.StepsLemmas.{both_ok, executes_refused_text, executes_shape, plain_refused, steps_as_quiet, steps_quiet, steps_report, steps_shape}
use Rattle.script.proofs.UpdatesLemmas.{executes_delete, executes_loads, executes_publish, executes_put}
use Rattle.script.proofs.step.execute_kept.Goals as goal

pub returns-in_ok-text-in-Ok-Load-clause-step : goal.returns-in_ok-text-in-Ok-Load-clause-step
returns-in_ok-text-in-Ok-Load-clause-step g c =
    let does = deed_read c.args.line.bytes.now c.schema.ensures c.in-Ok-Load.ensures.exact c.in-Ok-Load.field-0-is in
    rw c.quiet.ensures (steps_quiet g.H.KeyHash.hash_of (givens_of c.args.setup.now) c.args.line.bytes.now c.args.line.number (Some c.args.keeper.now) (Some c.execute_load.new.keeper) c.in_ok-text-in-Ok-Load.text (subst IsPlain (sym does) tt)
    (quiet_loaded c.args.setup.now.manner.now.form _ _ _ c.args.line.number c.in_ok-text-in-Ok-Load.text.items c.in_ok-text-in-Ok-Load.ensures.step)
    (executes_loads g.H.KeyHash.hash_of (givens_of c.args.setup.now) c.args.line.bytes.now c.args.line.number c.args.keeper.now c.execute_load.new.keeper c.in-Ok-Load.listing.now c.in_ok-text-in-Ok-Load.text.items does c.later_puts_lie_over.ensures.over c.in_ok-text-in-Ok-Load.ensures.step))

pub returns-in_err-text-in-Ok-Load-clause-worker : goal.returns-in_err-text-in-Ok-Load-clause-worker
returns-in_err-text-in-Ok-Load-clause-worker g c = λ late.
    let does = deed_read c.args.line.bytes.now c.schema.ensures c.in-Ok-Load.ensures.exact c.in-Ok-Load.field-0-is in
    subst HasWorkers (sym does) (loads {table = schema c.args.keeper.now} {listing = c.in-Ok-Load.listing.now})

pub execute_load-requires : goal.execute_load-requires
execute_load-requires g c =
    let does = deed_read c.args.line.bytes.now c.schema.ensures c.in-Ok-Load.ensures.exact c.in-Ok-Load.field-0-is in
    let fits : length c.in-Ok-Load.listing.now ≤ script_limit = omega (arith, listing_short (schema c.args.keeper.now) c.args.line.bytes.now c.in-Ok-Load.listing.now does, c.requires.short) in
    search (rules, fits)

pub returns-in-Ok-Put-clause-step : goal.returns-in-Ok-Put-clause-step
returns-in-Ok-Put-clause-step g c =
    let does = deed_read c.args.line.bytes.now c.schema.ensures c.in-Ok-Put.ensures.exact c.in-Ok-Put.field-0-is in
    steps_as_quiet g.H.KeyHash.hash_of (givens_of c.args.setup.now) c.args.line.bytes.now c.args.line.number (Some c.args.keeper.now) (Some c.put.new.table) c.put.result c.quiet_block.result _ c.quiet_block.ensures.found c.quiet_block.ensures.memory (λ found. subst IsPlain (sym does) tt)
    (IfOk-weaker c.put.result _ _ (λ bytes puts. quiet_laid _ _ _ c.args.line.number bytes.items puts) c.put.ensures.step)
    (IfOk-weaker c.put.result _ _ (λ bytes puts. executes_put g.H.KeyHash.hash_of (givens_of c.args.setup.now) c.args.line.bytes.now c.args.line.number c.args.keeper.now c.put.new.table c.in-Ok-Put.row bytes.items does puts) c.put.ensures.step)

pub put-requires : goal.put-requires
put-requires g c =
    let row : IsRowOf (schema c.args.keeper.now) c.in-Ok-Put.row = rw (← c.schema.ensures) (rw c.in-Ok-Put.field-0-is at c.in-Ok-Put.ensures.fits) in
    search (rules, row)

pub returns-in-Ok-Delete-clause-step : goal.returns-in-Ok-Delete-clause-step
returns-in-Ok-Delete-clause-step g c =
    let does = deed_read c.args.line.bytes.now c.schema.ensures c.in-Ok-Delete.ensures.exact c.in-Ok-Delete.field-0-is in
    steps_as_quiet g.H.KeyHash.hash_of (givens_of c.args.setup.now) c.args.line.bytes.now c.args.line.number (Some c.args.keeper.now) (Some c.delete.new.table) c.delete.result c.quiet_block-in-Ok-Delete.result _ c.quiet_block-in-Ok-Delete.ensures.found c.quiet_block-in-Ok-Delete.ensures.memory (λ found. subst IsPlain (sym does) tt)
    (IfOk-weaker c.delete.result _ _ (λ bytes none. inl none) c.delete.ensures.nothing)
    (both_ok c.delete.result _ _ _ (λ bytes changes none. executes_delete g.H.KeyHash.hash_of (givens_of c.args.setup.now) c.args.line.bytes.now c.args.line.number c.args.keeper.now c.in-Ok-Delete.key does c.delete.new.table bytes.items changes none) c.delete.ensures.draft c.delete.ensures.nothing)

pub returns-in-Ok-Publish-clause-step : goal.returns-in-Ok-Publish-clause-step
returns-in-Ok-Publish-clause-step g c =
    let does = deed_read c.args.line.bytes.now c.schema.ensures c.in-Ok-Publish.ensures.exact c.in-Ok-Publish.field-0-is in
    steps_as_quiet g.H.KeyHash.hash_of (givens_of c.args.setup.now) c.args.line.bytes.now c.args.line.number (Some c.args.keeper.now) (Some c.publish.new.keeper) c.publish.result c.quiet_block-in-Ok-Publish.result _ c.quiet_block-in-Ok-Publish.ensures.found c.quiet_block-in-Ok-Publish.ensures.memory (λ found. subst IsPlain (sym does) tt)
    (IfOk-weaker c.publish.result _ _ (λ bytes none. inl none) c.publish.ensures.nothing)
    (both_ok c.publish.result _ _ _ (λ bytes publishes none. executes_publish g.H.KeyHash.hash_of (givens_of c.args.setup.now) c.args.line.bytes.now c.args.line.number c.args.keeper.now c.publish.new.keeper bytes.items does publishes none) c.publish.ensures.published c.publish.ensures.nothing)

pub returns-in_ok-execute_report-in-Ok-Report-clause-step : goal.returns-in_ok-execute_report-in-Ok-Report-clause-step
returns-in_ok-execute_report-in-Ok-Report-clause-step g c =
    let does = deed_read c.args.line.bytes.now c.schema.ensures c.in-Ok-Report.ensures.exact c.in-Ok-Report.field-0-is in
    steps_report g.H.KeyHash.hash_of (givens_of c.args.setup.now) c.args.line.bytes.now c.args.line.number c.args.keeper.now c.in-Ok-Report.query.now _ does (rw c.last.ensures at c.in_ok-execute_report-in-Ok-Report.ensures)

pub returns-in-Ok-Shape-clause-step : goal.returns-in-Ok-Shape-clause-step
returns-in-Ok-Shape-clause-step g c =
    let does = deed_read c.args.line.bytes.now c.schema.ensures c.in-Ok-Shape.ensures.exact c.in-Ok-Shape.field-0-is in
    steps_shape g.H.KeyHash.hash_of (givens_of c.args.setup.now) c.args.line.bytes.now c.args.line.number (Some c.args.keeper.now) c.shape_block.result c.text_block.result _ c.text_block.ensures.found c.text_block.ensures.memory does
    (IfOk-weaker c.shape_block.result _ _ (λ bytes text. executes_shape g.H.KeyHash.hash_of (givens_of c.args.setup.now) c.args.line.bytes.now c.args.line.number c.args.keeper.now bytes.items does c.rows_have_the_shape_of_their_keys.ensures (rw c.last-in-Ok-Shape.ensures at text)) c.shape_block.ensures)

pub returns-in-Err-clause-step : goal.returns-in-Err-clause-step
returns-in-Err-clause-step g c =
    steps_as_quiet g.H.KeyHash.hash_of (givens_of c.args.setup.now) c.args.line.bytes.now c.args.line.number (Some c.args.keeper.now) (Some c.args.keeper.now) c.refuse.result c.quiet_block-in-Err.result _ c.quiet_block-in-Err.ensures.found c.quiet_block-in-Err.ensures.memory
    (plain_refused (Some c.args.keeper.now) c.args.line.bytes.now c.in-Err.fault c.refuse.result (rw c.schema.ensures at c.in-Err.ensures.exact) c.refuse.ensures.memory)
    (IfOk-weaker c.refuse.result _ _ (λ bytes text. quiet_refusal c.args.setup.now.manner.now.form c.args.line.number c.in-Err.fault bytes.items text) c.refuse.ensures.block)
    (executes_refused_text g.H.KeyHash.hash_of (givens_of c.args.setup.now) c.args.line.bytes.now c.args.line.number (Some c.args.keeper.now) c.in-Err.fault c.refuse.result (rw c.schema.ensures at c.in-Err.ensures.exact) c.refuse.ensures.memory c.refuse.ensures.block)
