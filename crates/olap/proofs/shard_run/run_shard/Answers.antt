use Rattle.std.proofs.Common.{inl, inr, map, string_bytes}
use Rattle.olap.proofs.EndingsLemmas.{help_of_shard}
use Rattle.olap.proofs.shard_run.run_shard.Goals as goal

pub returns-in-Ok-clause-told : goal.returns-in-Ok-clause-told
returns-in-Ok-clause-told g c = λ done. inr (record { job = c.in-Ok.job; asked = c.in-Ok.ensures.job; told = c.tell_job.ensures.told done })

pub returns-in-Ok-clause-spared : goal.returns-in-Ok-clause-spared
returns-in-Ok-clause-spared g c = elim c.tell_job.ensures.spared [
  | inl same ↦ inl same
  | inr spared ↦ inr (record { job = c.in-Ok.job; asked = c.in-Ok.ensures.job; spared = spared })
]

pub returns-in-Err-clause-told : goal.returns-in-Err-clause-told
returns-in-Err-clause-told g c = λ done. inl (help_of_shard (map string_bytes c.args.words.now) c.in-Err.fault c.in-Err.ensures.fault (c.refuse.ensures.only done))

pub returns-in-Err-clause-untouched : goal.returns-in-Err-clause-untouched
returns-in-Err-clause-untouched g c = elim c.refuse.ensures.kept [
  | inl same ↦ inr same
  | inr help ↦ inl (help_of_shard (map string_bytes c.args.words.now) c.in-Err.fault c.in-Err.ensures.fault help)
]
