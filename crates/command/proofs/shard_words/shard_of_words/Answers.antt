use Rattle.std.proofs.Common.{map, rules}
use Rattle.clap.specs.Words.{found_of, rows_of}
use Rattle.command.proofs.ShardWordsLemmas.{asks_for_shard, fault_of_shard}
use Rattle.command.proofs.shard_words.shard_of_words.Goals as goal

pub returns-clause-job : goal.returns-clause-job
returns-clause-job c =
    asks_for_shard (map (λ w. w.now) c.args.words.now) (rows_of (found_of c.in_ok-found.found)) c.shard_found.result (search rules) (search rules) c.shard_found.ensures.job

pub returns-clause-fault : goal.returns-clause-fault
returns-clause-fault c =
    fault_of_shard (map (λ w. w.now) c.args.words.now) (rows_of (found_of c.in_ok-found.found)) c.shard_found.result (search rules) (search rules) c.shard_found.ensures.fault
