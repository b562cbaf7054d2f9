use Rattle.olap.proofs.shard_run.tell_job.Goals as goal

pub returns-in-Ok-read_named-clause-told : goal.returns-in-Ok-read_named-clause-told
returns-in-Ok-read_named-clause-told g c = λ done. record { input = c.in-Ok-read_named.input; is_input = c.in-Ok-read_named.ensures.read; text = c.tell_input.ensures.told done }
