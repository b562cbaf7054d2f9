use Rattle.std.proofs.Common.{map, rules}
use Rattle.clap.specs.Words.{found_of, rows_of}
use Rattle.command.proofs.SessionWordsLemmas.{asks_of_found, fault_of_found}
use Rattle.command.proofs.session_words.job_of_words.Goals as goal

pub returns-clause-job : goal.returns-clause-job
returns-clause-job c =
    asks_of_found (map (λ w. w.now) c.args.words.now) (rows_of (found_of c.in_ok-found.found)) c.job_found.result (search rules) (search rules) c.job_found.ensures.job

pub returns-clause-fault : goal.returns-clause-fault
returns-clause-fault c =
    fault_of_found (map (λ w. w.now) c.args.words.now) (rows_of (found_of c.in_ok-found.found)) c.job_found.result (search rules) (search rules) c.job_found.ensures.fault
