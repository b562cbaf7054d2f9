use Rattle.std.proofs.Common.{List, Option, map, ℕ}
use Rattle.std.proofs.lemmas.Result.{IfOk-weaker}
use Rattle.std.specs.Prelude.{option_map}
use Rattle.questions.specs.Proposals.{AreWanted}
use Rattle.questions.proofs.ProposalsLemmas.{wanted_listed, wanted_of_file}
use Rattle.questions.proofs.proposal.proposed.Goals as goal
use Rattle.questions.proofs.proposal.proposed.Goals.{in-Some, in-None+in_ok-columns-in-None}

pub returns : goal.returns
returns c =
    let files : List (List ℕ) = map (λ f. f.items) c.args.files.now in
    let query : Option (List ℕ) = option_map (λ q. q.now) c.args.query in
    let wanted : AreWanted files c.args.wanted query c.args.wanted.columns c.match-columns.columns = elim c.match-columns.branch [
      | in-Some w ↦ wanted_listed files c.args.wanted query c.match-columns.columns w.in-Some.columns w.in-Some.is w.columns-is
      | in-None+in_ok-columns-in-None w ↦ wanted_of_file files c.args.wanted query c.match-columns.columns _ w.in-None.is w.columns-is w.in_ok-columns-in-None.ensures
    ] in
    IfOk-weaker c.with_key.result _ _ (λ p is. record { columns = c.match-columns.columns; wanted = wanted; proposed = is }) c.with_key.ensures
