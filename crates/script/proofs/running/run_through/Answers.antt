use Rattle.script.specs.Givens.{givens_in}
use Rattle.script.specs.Viewers.{asked_of}
use Rattle.script.proofs.RunsLemmas.{ends_err, ends_going_on, ends_ok}
use Rattle.script.proofs.running.run_through.Goals as goal

pub returns-in-Ok : goal.returns-in-Ok
returns-in-Ok g c =
    ends_ok g.O.Out.taken g.O.Out.faults c.args.out.now c.run_whole.new.out _ _ _ c.run_whole.result _ _ c.in-Ok.is
    (ends_going_on c.args.setup.now.on_refusal g.H.KeyHash-1.hash_of g.O.Out.taken g.O.Out.faults c.args.out.now c.run_whole.new.out (givens_in c.args.manner.now c.args.setup.now.how.now.rows c.args.setup.now.parts.now) (asked_of c.args.setup.now.viewing) c.args.script.now c.run_whole.result c.requires.goes_on c.run_whole.ensures)

pub returns-in-Err : goal.returns-in-Err
returns-in-Err g c =
    ends_err g.O.Out.taken g.O.Out.faults c.args.out.now c.run_whole.new.out _ _ _ c.run_whole.result _ c.in-Err.is
    (ends_going_on c.args.setup.now.on_refusal g.H.KeyHash-1.hash_of g.O.Out.taken g.O.Out.faults c.args.out.now c.run_whole.new.out (givens_in c.args.manner.now c.args.setup.now.how.now.rows c.args.setup.now.parts.now) (asked_of c.args.setup.now.viewing) c.args.script.now c.run_whole.result c.requires.goes_on c.run_whole.ensures)
