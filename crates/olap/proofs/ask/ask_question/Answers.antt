use Rattle.std.proofs.Common.{List, map, ℕ, Option, rules}
use Rattle.std.specs.Io.Buffered.{writer_buffer, writer_contents}
use Rattle.olap.specs.Queries.{IsAnswer, IsAnswerOfNamed}
use Rattle.olap.proofs.QueriesLemmas.{answer_of_named, leaves_as, leaves_nothing, not_2}
use Rattle.olap.proofs.ask.ask_question.Goals as goal

pub returns-in-Ok-clause-leaves : goal.returns-in-Ok-clause-leaves
returns-in-Ok-clause-leaves g c =
    let file : List ℕ → Option (List ℕ) = g.F.Folder.file c.args.folder.now in
    let files : List (List ℕ) = map (λ f. f.items) c.in-Ok.files.items in
    leaves_as (writer_contents g.W.Write.contents c.args.out) (writer_contents g.W.Write.contents c.ask_files.result.1) (writer_buffer c.ask_files.result.1)
    (IsAnswer files c.args.question.now c.args.wanted) (IsAnswerOfNamed file c.args.question.now c.args.wanted) c.ask_files.result.0
    (answer_of_named file files c.args.question.now c.args.wanted (search rules)) (search rules)

pub returns-in-Err-clause-leaves : goal.returns-in-Err-clause-leaves
returns-in-Err-clause-leaves g c =
    leaves_nothing (writer_contents g.W.Write.contents c.args.out) (writer_buffer c.args.out) (IsAnswerOfNamed (g.F.Folder.file c.args.folder.now) c.args.question.now c.args.wanted)
    c.cannot_read.result (not_2 c.cannot_read.result c.cannot_read.ensures)
