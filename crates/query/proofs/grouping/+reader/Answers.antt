use Rattle.std.proofs.Common.{ap, arith, length, inr, refl}
use Rattle.std.proofs.lemmas.Result.{IfOk-weaker, err_from_is_err_and}
use Rattle.query.specs.Grammar.{SpellsElement, comma, rparen}
use Rattle.query.specs.Reading.{Any}
use Rattle.query.proofs.Elements.{element_cube, element_empty, element_rollup, sets_behind}
use Rattle.query.proofs.Lists.{closed, err_closed, kept_end, kept_first, kept_next, kept_none, not_closed, part_err, turn_err, turn_found, turn_nothing}
use Rattle.query.proofs.grouping.+reader.Goals as goal

pub elements-returns-in_default-clause-reads : goal.elements-returns-in_default-clause-reads
elements-returns-in_default-clause-reads t c =
    kept_end comma SpellsElement Any (λ us. tt) c.args.tokens.now c.loop-found.rest.now c.loop-found.found.items c.loop-found.invariant.kept
    c.in_ok-element.element c.in_ok-element.behind.now c.push.new.self.items c.in_ok-element.ensures.reads c.in_ok-push.ensures.items c.in_default.ensures

pub elements-loop-found-preserved : goal.elements-loop-found-preserved
elements-loop-found-preserved t c =
    let more = ap length c.in-Some.ensures in
    record {
      kept =
          kept_next comma SpellsElement Any (λ us. tt) c.args.tokens.now c.loop-found.rest.now c.loop-found.found.items c.loop-found.invariant.kept
          c.in_ok-element.element c.in_ok-element.behind.now c.push.new.self.items c.in_ok-element.ensures.reads c.in_ok-push.ensures.items
          c.in-Some.more.now c.in-Some.ensures;
      shorter = omega (arith, c.in_ok-element.ensures.shorter);
    }

pub element-returns-in-Some-clause-reads : goal.element-returns-in-Some-clause-reads
element-returns-in-Some-clause-reads t c = rw c.empty.ensures (element_empty c.args.tokens.now c.in-Some.rest.now c.in-Some.ensures)

pub element-returns-in_err-units-clause-reads : goal.element-returns-in_err-units-clause-reads
element-returns-in_err-units-clause-reads t c =
    let p = err_from_is_err_and c.from_residual.result c.from_residual.ensures.1 in
    rw (p.1, p.2) (turn_err (element_rollup c.args.tokens.now c.in-Some-after_call.more.now c.in-Some-after_call.ensures) c.in_err-units.ensures.reads)

pub element-returns-in-Some-after_call-clause-reads : goal.element-returns-in-Some-after_call-clause-reads
element-returns-in-Some-after_call-clause-reads t c =
    rw c.rollup.ensures (turn_found (element_rollup c.args.tokens.now c.in-Some-after_call.more.now c.in-Some-after_call.ensures) c.in_ok-units.ensures.reads)

pub element-returns-in_err-units-2-clause-reads : goal.element-returns-in_err-units-2-clause-reads
element-returns-in_err-units-2-clause-reads t c =
    let p = err_from_is_err_and c.from_residual-in_err-units-2.result c.from_residual-in_err-units-2.ensures.1 in
    rw (p.1, p.2) (turn_err (element_cube c.args.tokens.now c.in-Some-after_call-2.more.now c.in-Some-after_call-2.ensures) c.in_err-units-2.ensures.reads)

pub element-returns-in-Some-after_call-2-clause-reads : goal.element-returns-in-Some-after_call-2-clause-reads
element-returns-in-Some-after_call-2-clause-reads t c =
    rw c.cube.ensures (turn_found (element_cube c.args.tokens.now c.in-Some-after_call-2.more.now c.in-Some-after_call-2.ensures) c.in_ok-units-2.ensures.reads)

pub element-returns-in-Some-after_sets-clause-reads : goal.element-returns-in-Some-after_sets-clause-reads
element-returns-in-Some-after_sets-clause-reads t c = rw c.in-Some-after_sets.ensures c.sets_element.ensures.reads

pub element-returns-clause-reads : goal.element-returns-clause-reads
element-returns-clause-reads t c =
    c.unit_element.ensures.reads (record {
      no_empty = c.in_default.ensures;
      no_rollup = c.in_default-after_call.ensures;
      no_cube = c.in_default-after_call-2.ensures;
      no_sets = c.in_default-after_sets.ensures;
    })

pub sets_element-returns-in_err-elements-clause-reads : goal.sets_element-returns-in_err-elements-clause-reads
sets_element-returns-in_err-elements-clause-reads t c =
    let p = err_from_is_err_and c.from_residual.result c.from_residual.ensures.1 in
    rw (p.1, p.2) (turn_err (sets_behind c.args.tokens.now) (err_closed rparen c.args.tokens.now (λ r. record { no_more = λ us e. cc; apart = tt }) c.in_err-elements.ensures.reads))

pub sets_element-returns-in_default-clause-reads : goal.sets_element-returns-in_default-clause-reads
sets_element-returns-in_default-clause-reads t c =
    inr (refl, turn_nothing (sets_behind c.args.tokens.now) (not_closed rparen c.args.tokens.now (λ r. record { no_more = λ us e. cc; apart = tt }) c.in_ok-elements.ensures.reads c.in_default.ensures))

pub sets_element-returns-clause-reads : goal.sets_element-returns-clause-reads
sets_element-returns-clause-reads t c =
    rw c.sets.ensures (turn_found (sets_behind c.args.tokens.now) (closed rparen c.args.tokens.now (λ r. record { no_more = λ us e. cc; apart = tt }) c.in_ok-elements.ensures.reads c.in-Some.behind.now c.in-Some.ensures))

pub elements-loop-found-init : goal.elements-loop-found-init
elements-loop-found-init t c = record { kept = rw c.new-found.ensures.items (kept_first comma SpellsElement Any (λ us. tt) c.args.tokens.now); shorter = omega arith }

pub elements-loop-found-smaller : goal.elements-loop-found-smaller
elements-loop-found-smaller t c = omega (arith, ap length c.in-Some.ensures, c.in_ok-element.ensures.shorter)

pub elements-returns-in_err-element-clause-reads : goal.elements-returns-in_err-element-clause-reads
elements-returns-in_err-element-clause-reads t c =
    let p = err_from_is_err_and c.from_residual.result c.from_residual.ensures.1 in
    rw (p.1, p.2) (part_err (kept_none comma SpellsElement Any (λ us. tt) c.args.tokens.now c.loop-found.rest.now c.loop-found.found.items c.loop-found.invariant.kept) c.in_err-element.ensures.reads)

pub elements-returns-in_default-clause-shorter : goal.elements-returns-in_default-clause-shorter
elements-returns-in_default-clause-shorter t c = omega (arith, c.in_ok-element.ensures.shorter, c.loop-found.invariant.shorter)

pub element-returns-in-Some-clause-shorter : goal.element-returns-in-Some-clause-shorter
element-returns-in-Some-clause-shorter t c = omega (arith, ap length c.in-Some.ensures)

pub element-returns-in-Some-after_call-clause-shorter : goal.element-returns-in-Some-after_call-clause-shorter
element-returns-in-Some-after_call-clause-shorter t c = omega (arith, ap length c.in-Some-after_call.ensures, c.in_ok-units.ensures.shorter)

pub element-returns-in-Some-after_call-2-clause-shorter : goal.element-returns-in-Some-after_call-2-clause-shorter
element-returns-in-Some-after_call-2-clause-shorter t c = omega (arith, ap length c.in-Some-after_call-2.ensures, c.in_ok-units-2.ensures.shorter)

pub element-returns-in-Some-after_sets-clause-shorter : goal.element-returns-in-Some-after_sets-clause-shorter
element-returns-in-Some-after_sets-clause-shorter t c =
    IfOk-weaker c.sets_element.result _ _ (λ x fewer. omega (arith, fewer, ap length c.in-Some-after_sets.ensures)) c.sets_element.ensures.shorter

pub element-returns-clause-shorter : goal.element-returns-clause-shorter
element-returns-clause-shorter t c = c.unit_element.ensures.shorter

pub sets_element-returns-clause-shorter : goal.sets_element-returns-clause-shorter
sets_element-returns-clause-shorter t c = omega (arith, c.in_ok-elements.ensures.shorter, ap length c.in-Some.ensures)
