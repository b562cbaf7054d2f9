use Rattle.script.specs.Givens.{givens_in}
use Rattle.script.specs.Viewers.{asked_of}
use Rattle.script.proofs.RunsLemmas.{ends_going_on}
use Rattle.script.proofs.running.run_in.Goals as goal

pub returns-in-Fnv-clause-goes_on : goal.returns-in-Fnv-clause-goes_on
returns-in-Fnv-clause-goes_on g c = λ goes.
    rw c.in-Fnv.is (ends_going_on c.args.setup.now.on_refusal _ g.O.Out.taken g.O.Out.faults c.args.out.now c.run_whole.new.out (givens_in c.args.manner.now c.args.setup.now.how.now.rows c.args.setup.now.parts.now) (asked_of c.args.setup.now.viewing) c.args.script.now c.run_whole.result goes c.run_whole.ensures)

pub returns-in-Plain-clause-goes_on : goal.returns-in-Plain-clause-goes_on
returns-in-Plain-clause-goes_on g c = λ goes.
    rw c.in-Plain.is (ends_going_on c.args.setup.now.on_refusal _ g.O.Out.taken g.O.Out.faults c.args.out.now c.run_whole-in-Plain.new.out (givens_in c.args.manner.now c.args.setup.now.how.now.rows c.args.setup.now.parts.now) (asked_of c.args.setup.now.viewing) c.args.script.now c.run_whole-in-Plain.result goes c.run_whole-in-Plain.ensures)
