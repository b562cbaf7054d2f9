use Rattle.std.proofs.Common.{rules}
use Rattle.std.proofs.lemmas.List.{length-map}
use Rattle.std.specs.Io.Buffered.{writer_contents}
use Rattle.olap.proofs.TalksLemmas.{talk_closed, talk_finished, talk_output}
use Rattle.script.specs.Givens.{givens_in}
use Rattle.script.specs.Hows.{hash_of_choice}
use Rattle.script.specs.declared.finish.Finish.TheVariants.{Through}
use Rattle.olap.proofs.talk.hold.Goals as goal

pub returns-clause-output : goal.returns-clause-output
returns-clause-output g c = λ ok few.
    let wrote = talk_finished (g.I.Read.remaining c.args.input) (hash_of_choice c.args.hash) (givens_in c.args.holding.now.manner.now c.args.holding.now.how.now.rows c.args.holding.now.parts.now) c.args.holding.now.on_refusal
    (writer_contents g.W.Write.contents c.args.out) (writer_contents g.W.Write.contents c.into_inner-out.result) (writer_contents g.W.Write.contents c.close-status.new.out)
    c.talk_by-talked.result Through (search rules) (c.close-status.ensures.through ok) c.close-status.ensures.kept in
    talk_output (hash_of_choice c.args.hash) (givens_in c.args.holding.now.manner.now c.args.holding.now.how.now.rows c.args.holding.now.parts.now) c.args.holding.now.on_refusal (g.I.Read.remaining c.args.input) _ _
    (λ script bytes short replies. c.a_session_writes_the_output_of_its_lines.ensures (hash_of_choice c.args.hash) (givens_in c.args.holding.now.manner.now c.args.holding.now.how.now.rows c.args.holding.now.parts.now) script bytes short (rw length-map few) replies) wrote

pub returns-clause-beginning : goal.returns-clause-beginning
returns-clause-beginning g c = λ early.
    talk_closed (g.I.Read.remaining c.args.input) (hash_of_choice c.args.hash) (givens_in c.args.holding.now.manner.now c.args.holding.now.how.now.rows c.args.holding.now.parts.now) c.args.holding.now.on_refusal
    (writer_contents g.W.Write.contents c.args.out) (writer_contents g.W.Write.contents c.into_inner-out.result) (writer_contents g.W.Write.contents c.close-status.new.out)
    c.talk_by-talked.result (search rules) (search rules) c.close-status.ensures.kept
