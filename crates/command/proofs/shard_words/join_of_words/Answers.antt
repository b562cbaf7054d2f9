use Rattle.std.proofs.Common.{map, rules}
use Rattle.clap.specs.Words.{found_of, rows_of}
use Rattle.command.proofs.ShardWordsLemmas.{asks_to_join, fault_of_join}
use Rattle.command.proofs.shard_words.join_of_words.Goals as goal

pub returns-clause-job : goal.returns-clause-job
returns-clause-job c =
    asks_to_join (map (λ w. w.now) c.args.words.now) (rows_of (found_of c.in_ok-found.found)) c.join_found.result (search rules) (search rules) c.join_found.ensures.job

pub returns-clause-fault : goal.returns-clause-fault
returns-clause-fault c =
    fault_of_join (map (λ w. w.now) c.args.words.now) (rows_of (found_of c.in_ok-found.found)) c.join_found.result (search rules) (search rules) c.join_found.ensures.fault
