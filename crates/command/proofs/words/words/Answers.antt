use Rattle.std.proofs.Common.{map, rules}
use Rattle.clap.specs.Words.{found_of, rows_of}
use Rattle.command.proofs.CommandLineLemmas.{asks_of_found, asks_of_found_live, fault_of_found, fault_of_found_live}
use Rattle.command.proofs.words.words.Goals as goal

pub returns-in-Some-clause-job : goal.returns-in-Some-clause-job
returns-in-Some-clause-job c =
    asks_of_found (map (λ w. w.now) c.args.words.now) (rows_of (found_of c.in-Some.found.now)) c.job_found.result (search rules) c.job_found.ensures.job c.job_found.ensures.live

pub returns-in-Some-clause-fault : goal.returns-in-Some-clause-fault
returns-in-Some-clause-fault c =
    fault_of_found (map (λ w. w.now) c.args.words.now) (rows_of (found_of c.in-Some.found.now)) c.job_found.result (search rules) (search rules) c.job_found.ensures.fault

pub returns-in-Some-live_of-clause-job : goal.returns-in-Some-live_of-clause-job
returns-in-Some-live_of-clause-job c =
    asks_of_found_live (map (λ w. w.now) c.args.words.now) (rows_of (found_of c.in-Some-live_of.found.now)) c.live_found.result (search rules) c.live_found.ensures.job c.live_found.ensures.live

pub returns-in-Some-live_of-clause-fault : goal.returns-in-Some-live_of-clause-fault
returns-in-Some-live_of-clause-fault c =
    fault_of_found_live (map (λ w. w.now) c.args.words.now) (rows_of (found_of c.in-Some-live_of.found.now)) c.live_found.result (search rules) (search rules) c.live_found.ensures.fault
