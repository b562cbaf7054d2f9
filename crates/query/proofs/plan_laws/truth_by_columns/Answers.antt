use Rattle.query.proofs.TruthLemmas.{decided_by_columns}
use Rattle.query.proofs.plan_laws.truth_by_columns.Goals as goal

pub returns : goal.returns
returns c = decided_by_columns
