use Rattle.std.proofs.Common.{◌≤◌, Some, arith, inl, length, rules, subst, sym}
use Rattle.std.proofs.lemmas.Result.{IfOk-weaker}
use Rattle.cells.specs.Fitting.{IsRowOf}
use Rattle.board.specs.Editions.{schema}
use Rattle.script.specs.Givens.{givens_of}
use Rattle.script.specs.Limits.{script_limit}
use Rattle.script.proofs.CommandsLemmas.{listing_short}
use Rattle.script.proofs.RefusalsLemmas.{IsPlain, quiet_laid, quiet_loaded, quiet_refusal}
use Rattle.script.proofs.StatementsLemmas.{deed_read}
use Rattle.script.proofs.StepsLemmas.{both_ok, executes_refused_text, executes_shape, plain_refused, steps_as_quiet, steps_quiet, steps_report, steps_shape}
use Rattle.script.proofs.UpdatesLemmas.{executes_delete, executes_loads, executes_publish, executes_put}
use Rattle.script.proofs.here.execute_kept_here.Goals as goal

pub returns-in_ok-text-in-Ok-Load : goal.returns-in_ok-text-in-Ok-Load
returns-in_ok-text-in-Ok-Load g c =
    let does = deed_read c.args.line.bytes.now c.schema.ensures c.in-Ok-Load.ensures.exact c.in-Ok-Load.field-0-is in
    record {
      step = rw c.quiet.ensures (steps_quiet g.H.KeyHash.hash_of (givens_of c.args.setup.now) c.args.line.bytes.now c.args.line.number (Some c.args.ledger.now) (Some c.execute_load_here.new.ledger) c.in_ok-text-in-Ok-Load.text (subst IsPlain (sym does) tt)
          (quiet_loaded c.args.setup.now.manner.now.form _ _ _ c.args.line.number c.in_ok-text-in-Ok-Load.text.items c.in_ok-text-in-Ok-Load.ensures.step)
          (executes_loads g.H.KeyHash.hash_of (givens_of c.args.setup.now) c.args.line.bytes.now c.args.line.number c.args.ledger.now c.execute_load_here.new.ledger c.in-Ok-Load.listing.now c.in_ok-text-in-Ok-Load.text.items does c.later_puts_lie_over.ensures.over c.in_ok-text-in-Ok-Load.ensures.step));
    }

pub execute_load_here-requires : goal.execute_load_here-requires
execute_load_here-requires g c =
    let does = deed_read c.args.line.bytes.now c.schema.ensures c.in-Ok-Load.ensures.exact c.in-Ok-Load.field-0-is in
    let fits : length c.in-Ok-Load.listing.now ≤ script_limit = omega (arith, listing_short (schema c.args.ledger.now) c.args.line.bytes.now c.in-Ok-Load.listing.now does, c.requires.short) in
    search (rules, fits)

pub returns-in-Ok-Put : goal.returns-in-Ok-Put
returns-in-Ok-Put g c =
    let does = deed_read c.args.line.bytes.now c.schema.ensures c.in-Ok-Put.ensures.exact c.in-Ok-Put.field-0-is in
    record {
      step = steps_as_quiet g.H.KeyHash.hash_of (givens_of c.args.setup.now) c.args.line.bytes.now c.args.line.number (Some c.args.ledger.now) (Some c.put.new.table) c.put.result c.quiet_block.result _ c.quiet_block.ensures.found c.quiet_block.ensures.memory (λ found. subst IsPlain (sym does) tt)
          (IfOk-weaker c.put.result _ _ (λ bytes puts. quiet_laid _ _ _ c.args.line.number bytes.items puts) c.put.ensures.step)
          (IfOk-weaker c.put.result _ _ (λ bytes puts. executes_put g.H.KeyHash.hash_of (givens_of c.args.setup.now) c.args.line.bytes.now c.args.line.number c.args.ledger.now c.put.new.table c.in-Ok-Put.row bytes.items does puts) c.put.ensures.step);
    }

pub put-requires : goal.put-requires
put-requires g c =
    let row : IsRowOf (schema c.args.ledger.now) c.in-Ok-Put.row = rw (← c.schema.ensures) (rw c.in-Ok-Put.field-0-is at c.in-Ok-Put.ensures.fits) in
    search (rules, row)

pub returns-in-Ok-Delete : goal.returns-in-Ok-Delete
returns-in-Ok-Delete g c =
    let does = deed_read c.args.line.bytes.now c.schema.ensures c.in-Ok-Delete.ensures.exact c.in-Ok-Delete.field-0-is in
    record {
      step = steps_as_quiet g.H.KeyHash.hash_of (givens_of c.args.setup.now) c.args.line.bytes.now c.args.line.number (Some c.args.ledger.now) (Some c.delete.new.table) c.delete.result c.quiet_block-in-Ok-Delete.result _ c.quiet_block-in-Ok-Delete.ensures.found c.quiet_block-in-Ok-Delete.ensures.memory (λ found. subst IsPlain (sym does) tt)
          (IfOk-weaker c.delete.result _ _ (λ bytes none. inl none) c.delete.ensures.nothing)
          (both_ok c.delete.result _ _ _ (λ bytes changes none. executes_delete g.H.KeyHash.hash_of (givens_of c.args.setup.now) c.args.line.bytes.now c.args.line.number c.args.ledger.now c.in-Ok-Delete.key does c.delete.new.table bytes.items changes none) c.delete.ensures.draft c.delete.ensures.nothing);
    }

pub returns-in-Ok-Publish : goal.returns-in-Ok-Publish
returns-in-Ok-Publish g c =
    let does = deed_read c.args.line.bytes.now c.schema.ensures c.in-Ok-Publish.ensures.exact c.in-Ok-Publish.field-0-is in
    record {
      step = steps_as_quiet g.H.KeyHash.hash_of (givens_of c.args.setup.now) c.args.line.bytes.now c.args.line.number (Some c.args.ledger.now) (Some c.publish_here.new.ledger) c.publish_here.result c.quiet_block-in-Ok-Publish.result _ c.quiet_block-in-Ok-Publish.ensures.found c.quiet_block-in-Ok-Publish.ensures.memory (λ found. subst IsPlain (sym does) tt)
          (IfOk-weaker c.publish_here.result _ _ (λ bytes none. inl none) c.publish_here.ensures.nothing)
          (both_ok c.publish_here.result _ _ _ (λ bytes publishes none. executes_publish g.H.KeyHash.hash_of (givens_of c.args.setup.now) c.args.line.bytes.now c.args.line.number c.args.ledger.now c.publish_here.new.ledger bytes.items does publishes none) c.publish_here.ensures.published c.publish_here.ensures.nothing);
    }

pub returns-in_ok-execute_report-in-Ok-Report : goal.returns-in_ok-execute_report-in-Ok-Report
returns-in_ok-execute_report-in-Ok-Report g c =
    let does = deed_read c.args.line.bytes.now c.schema.ensures c.in-Ok-Report.ensures.exact c.in-Ok-Report.field-0-is in
    record {
      step = steps_report g.H.KeyHash.hash_of (givens_of c.args.setup.now) c.args.line.bytes.now c.args.line.number c.args.ledger.now c.in-Ok-Report.query.now _ does (rw c.last.ensures at c.in_ok-execute_report-in-Ok-Report.ensures);
    }

pub returns-in-Ok-Shape : goal.returns-in-Ok-Shape
returns-in-Ok-Shape g c =
    let does = deed_read c.args.line.bytes.now c.schema.ensures c.in-Ok-Shape.ensures.exact c.in-Ok-Shape.field-0-is in
    record {
      step = steps_shape g.H.KeyHash.hash_of (givens_of c.args.setup.now) c.args.line.bytes.now c.args.line.number (Some c.args.ledger.now) c.shape_block.result c.text_block.result _ c.text_block.ensures.found c.text_block.ensures.memory does
          (IfOk-weaker c.shape_block.result _ _ (λ bytes text. executes_shape g.H.KeyHash.hash_of (givens_of c.args.setup.now) c.args.line.bytes.now c.args.line.number c.args.ledger.now bytes.items does c.rows_have_the_shape_of_their_keys.ensures (rw c.last-in-Ok-Shape.ensures at text)) c.shape_block.ensures);
    }

pub returns-in-Err : goal.returns-in-Err
returns-in-Err g c =
    record {
      step = steps_as_quiet g.H.KeyHash.hash_of (givens_of c.args.setup.now) c.args.line.bytes.now c.args.line.number (Some c.args.ledger.now) (Some c.args.ledger.now) c.refuse.result c.quiet_block-in-Err.result _ c.quiet_block-in-Err.ensures.found c.quiet_block-in-Err.ensures.memory
          (plain_refused (Some c.args.ledger.now) c.args.line.bytes.now c.in-Err.fault c.refuse.result (rw c.schema.ensures at c.in-Err.ensures.exact) c.refuse.ensures.memory)
          (IfOk-weaker c.refuse.result _ _ (λ bytes text. quiet_refusal c.args.setup.now.manner.now.form c.args.line.number c.in-Err.fault bytes.items text) c.refuse.ensures.block)
          (executes_refused_text g.H.KeyHash.hash_of (givens_of c.args.setup.now) c.args.line.bytes.now c.args.line.number (Some c.args.ledger.now) c.in-Err.fault c.refuse.result (rw c.schema.ensures at c.in-Err.ensures.exact) c.refuse.ensures.memory c.refuse.ensures.block);
    }
