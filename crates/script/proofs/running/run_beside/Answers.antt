use Rattle.std.proofs.Common.{◌∙◌, Err, ap, arith, refl, reverse}
use Rattle.std.proofs.lemmas.Result.{err_from_is_err_and}
use Rattle.std.specs.Str.Lines.{lines}
use Rattle.script.specs.Givens.{givens_of}
use Rattle.script.specs.Viewers.{asked_of}
use Rattle.script.proofs.EndingsLemmas.{ends_unwritten}
use Rattle.script.proofs.ProgressLemmas.{partly_written}
use Rattle.script.proofs.RunsLemmas.{may_want, so_early, so_stopped, so_tailed}
use Rattle.script.proofs.running.run_beside.Goals as goal

pub returns-in_err-gone : goal.returns-in_err-gone
returns-in_err-gone g c =
    let p = err_from_is_err_and c.from_residual.result c.from_residual.ensures.1 in
    so_early g.O.Out.taken g.O.Out.faults _ _ _ _ c.from_residual.result _ p.0 p.1 (rw p.2 c.in_err-gone.ensures)

pub returns-in_err-finish : goal.returns-in_err-finish
returns-in_err-finish g c =
    let p = err_from_is_err_and c.from_residual-in_err-finish.result c.from_residual-in_err-finish.ensures.1 in
    let over = c.in_ok-gone.ensures.over in
    so_early g.O.Out.taken g.O.Out.faults _ _ _ _ c.from_residual-in_err-finish.result _ p.0 p.1
    (ends_unwritten g.O.Out.taken g.O.Out.faults _ _ _ p.0 (Err p.0) refl
    (partly_written _ over c.each_text_has_an_answer.ensures (c.in_err-finish.ensures.whole.beginning over.waiting over.awaits))
    _ _ _ p.2 (λ writer. let failed = c.in_err-finish.ensures.whole.fault (ap Err writer) in omega (arith, failed, c.in_ok-gone.ensures.sound))
    (λ late. may_want (givens_of c.args.setup.now) (asked_of c.args.setup.now.viewing) (lines c.args.script.now) (over.asks (c.in_err-finish.ensures.worker (ap Err late)))))

pub write_tail-requires-clause-attended : goal.write_tail-requires-clause-attended
write_tail-requires-clause-attended g c = λ κs outlives. c.in_ok-gone.ensures.attended

pub returns-in-Through : goal.returns-in-Through
returns-in-Through g c =
    let over = rw c.in-Through.is at c.in_ok-gone.ensures.over in
    so_tailed g.O.Out.taken g.O.Out.faults _ _ _ _ g.H.KeyHash-1.hash_of (givens_of c.args.setup.now) c.args.setup.now.on_refusal (asked_of c.args.setup.now.viewing) (lines c.args.script.now) _ _ _ c.write_tail.result c.through.result
    over (c.in_ok-finish.ensures.whole.written over.waiting over.awaits) (c.in_ok-finish.ensures.whole.sound ∙ c.in_ok-gone.ensures.sound)
    (c.write_tail.ensures.tail g.H.KeyHash-1.hash_of c.args.setup.now.on_refusal (reverse (lines c.args.script.now)) (over.stands refl)) c.write_tail.ensures.asked c.through.ensures.ok c.through.ensures.early

pub returns-in-Stopped : goal.returns-in-Stopped
returns-in-Stopped g c =
    let over = rw c.in-Stopped.is at c.in_ok-gone.ensures.over in
    so_stopped g.O.Out.taken g.O.Out.faults _ _ _ g.H.KeyHash-1.hash_of (givens_of c.args.setup.now) c.args.setup.now.on_refusal (asked_of c.args.setup.now.viewing) (lines c.args.script.now) _ _ _ _
    over (c.in_ok-finish.ensures.whole.written over.waiting over.awaits) (c.in_ok-finish.ensures.whole.sound ∙ c.in_ok-gone.ensures.sound) refl
