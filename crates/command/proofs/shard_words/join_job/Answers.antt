use Rattle.std.proofs.Common.{map, string_bytes, subst, List, ◌≡◌}
use Rattle.std.specs.Prelude.{IfErr}
use Rattle.clap.specs.Words.{Text}
use Rattle.command.specs.ShardWords.{ExplainsJoinFault}
use Rattle.command.proofs.shard_words.join_job.Goals as goal

pub returns-clause-fault : goal.returns-clause-fault
returns-clause-fault c =
    let same : map (λ w. w.now) c.as_slice.result.now ≡ map string_bytes c.args.given.now = rw c.as_slice.ensures.value c.in_ok-texts.ensures in
    subst (λ (ws : List Text). IfErr c.join_of_words.result (ExplainsJoinFault ws)) same c.join_of_words.ensures.fault
