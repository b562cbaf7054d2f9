use Rattle.std.proofs.Common.{List, map, ℕ}
use Rattle.std.specs.Io.Buffered.{writer_buffer, writer_contents}
use Rattle.olap.specs.Queries.{IsAnswer, IsStrictOutput}
use Rattle.olap.proofs.QueriesLemmas.{answer_of, leaves_as, leaves_nothing, not_1_3}
use Rattle.olap.proofs.ask.ask_told.Goals as goal

pub returns-in-Ok-clause-leaves : goal.returns-in-Ok-clause-leaves
returns-in-Ok-clause-leaves g c =
    let files : List (List ℕ) = map (λ f. f.items) c.args.files.now in
    leaves_as (writer_contents g.W.Write.contents c.args.out) (writer_contents g.W.Write.contents c.run_asked.result.1) (writer_buffer c.run_asked.result.1)
    (IsStrictOutput c.args.question.now c.in-Ok.input) (IsAnswer files c.args.question.now c.args.wanted) c.run_asked.result.0
    (answer_of files c.args.question.now c.args.wanted c.in-Ok.input c.in-Ok.ensures) c.run_asked.ensures.leaves

pub returns-in-Err-clause-leaves : goal.returns-in-Err-clause-leaves
returns-in-Err-clause-leaves g c =
    leaves_nothing (writer_contents g.W.Write.contents c.args.out) (writer_buffer c.args.out) (IsAnswer (map (λ f. f.items) c.args.files.now) c.args.question.now c.args.wanted)
    c.refuse_file.result (not_1_3 c.refuse_file.result c.refuse_file.ensures)
