use Rattle.std.proofs.Common.{rules}
use Rattle.std.specs.Io.Buffered.{writer_contents}
use Rattle.script.specs.Givens.{givens_in}
use Rattle.script.specs.Hows.{hash_of_choice}
use Rattle.script.specs.Stops.{HoweverFinished}
use Rattle.script.specs.Viewers.{IsRunBy, asked_of}
use Rattle.script.specs.declared.finish.Finish.TheVariants.{Stopped, Through}
use Rattle.olap.proofs.ProgramLemmas.{begins_closed, wrote_finished}
use Rattle.olap.proofs.program.run_input.Goals as goal

pub returns-clause-written : goal.returns-clause-written
returns-clause-written g c = λ ok.
    let wrote = c.run_in-ended.ensures.by.wrote in
    wrote_finished (IsRunBy c.args.on_refusal (hash_of_choice c.args.hash) (givens_in c.args.manner.now c.args.how.now.rows c.args.input.now.parts.items) (asked_of c.args.viewing) c.args.input.now.script.items)
    (writer_contents g.W.Write.contents c.args.out) (writer_contents g.W.Write.contents c.into_inner-out.result)
    (writer_contents g.W.Write.contents c.close_finished-status.new.out)
    c.run_in-ended.result Through (search rules) (c.close_finished-status.ensures.through ok) (search rules)

pub returns-clause-stopped : goal.returns-clause-stopped
returns-clause-stopped g c = λ stopped.
    let wrote = c.run_in-ended.ensures.by.wrote in
    wrote_finished (IsRunBy c.args.on_refusal (hash_of_choice c.args.hash) (givens_in c.args.manner.now c.args.how.now.rows c.args.input.now.parts.items) (asked_of c.args.viewing) c.args.input.now.script.items)
    (writer_contents g.W.Write.contents c.args.out) (writer_contents g.W.Write.contents c.into_inner-out.result)
    (writer_contents g.W.Write.contents c.close_finished-status.new.out)
    c.run_in-ended.result Stopped (search rules) (c.close_finished-status.ensures.stopped stopped) (search rules)

pub returns-clause-beginning : goal.returns-clause-beginning
returns-clause-beginning g c =
    let all = c.run_in-ended.ensures.by.ends.delivered.output in
    let part = c.run_in-ended.ensures.by.ends.delivered.beginning in
    begins_closed (HoweverFinished (IsRunBy c.args.on_refusal (hash_of_choice c.args.hash) (givens_in c.args.manner.now c.args.how.now.rows c.args.input.now.parts.items) (asked_of c.args.viewing) c.args.input.now.script.items))
    (writer_contents g.W.Write.contents c.args.out) (writer_contents g.W.Write.contents c.into_inner-out.result)
    (writer_contents g.W.Write.contents c.close_finished-status.new.out)
    c.run_in-ended.result (search rules) (search rules) (search rules)
