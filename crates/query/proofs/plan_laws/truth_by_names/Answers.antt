use Rattle.query.proofs.TruthLemmas.{condition_truth, having_is}
use Rattle.query.proofs.plan_laws.truth_by_names.Goals as goal

pub returns-clause-condition : goal.returns-clause-condition
returns-clause-condition c = condition_truth

pub returns-clause-having : goal.returns-clause-having
returns-clause-having c = having_is
