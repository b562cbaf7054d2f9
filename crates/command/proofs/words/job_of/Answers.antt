use Rattle.std.proofs.Common.{map, string_bytes, subst, List, ◌≡◌}
use Rattle.std.specs.Prelude.{IfErr}
use Rattle.clap.specs.Words.{Text}
use Rattle.command.specs.Jobs.{ExplainsFault}
use Rattle.command.proofs.words.job_of.Goals as goal

pub returns-clause-fault : goal.returns-clause-fault
returns-clause-fault c =
    let same : map (λ w. w.now) c.as_slice.result.now ≡ map string_bytes c.args.given.now = rw c.as_slice.ensures.value c.in_ok-texts.ensures in
    subst (λ (ws : List Text). IfErr c.words.result (ExplainsFault ws)) same c.words.ensures.fault
