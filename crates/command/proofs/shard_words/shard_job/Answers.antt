use Rattle.std.proofs.Common.{map, string_bytes, subst, List, ◌≡◌}
use Rattle.std.specs.Prelude.{IfErr}
use Rattle.clap.specs.Words.{Text}
use Rattle.command.specs.ShardWords.{ExplainsShardFault}
use Rattle.command.proofs.shard_words.shard_job.Goals as goal

pub returns-clause-fault : goal.returns-clause-fault
returns-clause-fault c =
    let same : map (λ w. w.now) c.as_slice.result.now ≡ map string_bytes c.args.given.now = rw c.as_slice.ensures.value c.in_ok-texts.ensures in
    subst (λ (ws : List Text). IfErr c.shard_of_words.result (ExplainsShardFault ws)) same c.shard_of_words.ensures.fault
