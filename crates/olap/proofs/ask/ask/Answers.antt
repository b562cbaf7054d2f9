use Rattle.std.proofs.Common.{List, map, string_bytes, subst, ℕ, Option, inr}
use Rattle.std.specs.Io.Buffered.{writer_buffer, writer_contents}
use Rattle.questions.specs.Asking.{IsQuestion, IsWanted}
use Rattle.olap.specs.Queries.{AskToAnswer, IsAnswerOfNamed}
use Rattle.olap.proofs.QueriesLemmas.{asked, leaves_as}
use Rattle.olap.proofs.ask.ask.Goals as goal

pub returns-in-Ok-question_of-clause-leaves : goal.returns-in-Ok-question_of-clause-leaves
returns-in-Ok-question_of-clause-leaves g c =
    let words : List (List ℕ) = map string_bytes c.args.words.now in
    let file : List ℕ → Option (List ℕ) = g.F.Folder.file c.args.folder.now in
    let question = c.in-Ok-question_of.question in
    let wanted = c.in-Ok-question_of.wanted in
    inr (leaves_as (writer_contents g.W.Write.contents c.args.out) (writer_contents g.W.Write.contents c.ask_question.result.1) (writer_buffer c.ask_question.result.1)
    (IsAnswerOfNamed file question wanted) (AskToAnswer file words) c.ask_question.result.0
    (asked file words question wanted (subst (λ given. IsQuestion given question) c.in-Ok.ensures c.in-Ok-question_of.ensures.asked)
    (subst (λ given. IsWanted given wanted) c.in-Ok.ensures c.in-Ok-question_of.ensures.wanted)) c.ask_question.ensures.leaves)
