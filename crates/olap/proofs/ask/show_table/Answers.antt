use Rattle.std.proofs.Common.{◌≡◌, ◌++◌, ◌∙◌, List, None, Option, map, rules, string_bytes, ℕ}
use Rattle.std.specs.Io.Buffered.{writer_contents}
use Rattle.questions.specs.Proposals.{IsProposal, line_of_proposal}
use Rattle.questions.specs.Questions.{line_end}
use Rattle.olap.specs.Folders.{AreTold}
use Rattle.olap.specs.Queries.{IsProposedLine}
use Rattle.olap.proofs.EndingsLemmas.{writes_as}
use Rattle.olap.proofs.ask.show_table.Goals as goal

pub returns-in-Ok-shown_line-clause-written : goal.returns-in-Ok-shown_line-clause-written
returns-in-Ok-shown_line-clause-written g c = λ done.
    let file : List ℕ → Option (List ℕ) = g.F.Folder.file c.args.folder.now in
    let names : List (List ℕ) = c.args.question.names.items in
    let files : List (List ℕ) = map (λ f. f.items) c.in-Ok.files.items in
    let proposal = c.in-Ok-proposed.proposal in
    let told : AreTold file names files = search rules in
    let proposed : IsProposal files c.args.question.wanted None proposal = search rules in
    let line : string_bytes c.in-Ok-shown_line.line ≡ line_of_proposal names proposal ++ line_end = search rules in
    writes_as (λ whole. whole ≡ c.as_str.result.now) (IsProposedLine file names c.args.question.wanted) (writer_contents g.W.Write.contents c.args.out.now) (writer_contents g.W.Write.contents c.show.new.out)
    (λ whole is. record { files = files; told = told; proposal = proposal; proposed = proposed; line = is ∙ c.as_str.ensures.value ∙ line }) (c.show.ensures.written done)
