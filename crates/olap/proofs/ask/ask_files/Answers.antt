use Rattle.std.proofs.Common.{map}
use Rattle.std.specs.Io.Buffered.{writer_buffer, writer_contents}
use Rattle.olap.specs.Queries.{IsAnswer}
use Rattle.olap.proofs.QueriesLemmas.{leaves_nothing, not_1_3}
use Rattle.olap.proofs.ask.ask_files.Goals as goal

pub returns-in-Err-clause-leaves : goal.returns-in-Err-clause-leaves
returns-in-Err-clause-leaves g c =
    leaves_nothing (writer_contents g.W.Write.contents c.args.out) (writer_buffer c.args.out) (IsAnswer (map (λ f. f.items) c.args.files.now) c.args.question.now c.args.wanted)
    c.refuse_file.result (not_1_3 c.refuse_file.result c.refuse_file.ensures)
