use Rattle.std.proofs.Common.{inl, inr}
use Rattle.olap.proofs.join.join_files.Goals as goal

pub returns-in-Ok-clause-left : goal.returns-in-Ok-clause-left
returns-in-Ok-clause-left g c = λ done. inr (record { job = c.in-Ok.job; asked = c.in-Ok.ensures.job; leaves = c.run_join.ensures.left done })

pub returns-in-Ok-clause-spared : goal.returns-in-Ok-clause-spared
returns-in-Ok-clause-spared g c = elim c.run_join.ensures.spared [
  | inl same ↦ inl same
  | inr may ↦ inr (record { job = c.in-Ok.job; asked = c.in-Ok.ensures.job; may_take = may })
]
