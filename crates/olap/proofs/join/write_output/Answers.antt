use Rattle.std.proofs.Common.{rules}
use Rattle.std.specs.Io.Buffered.{writer_contents}
use Rattle.olap.specs.Partials.{IsOutputOfTold}
use Rattle.olap.proofs.ProgramLemmas.{wrote_closed}
use Rattle.olap.proofs.join.write_output.Goals as goal

pub returns-clause-written : goal.returns-clause-written
returns-clause-written g c = λ done.
    wrote_closed (IsOutputOfTold c.args.form c.args.joint) (writer_contents g.W.Write.contents c.args.out) (writer_contents g.W.Write.contents c.into_inner-out.result)
    (writer_contents g.W.Write.contents c.close_run-status.new.out) c.pour_text-ended.result c.close_run-status.result c.in-Ok.text.items
    (λ hash sharding givens manner parts fit told. c.in-Ok.ensures.output hash sharding givens (rw c.of-manner.ensures manner) parts fit told)
    (search rules) c.close_run-status.ensures.early done c.close_run-status.ensures.kept
