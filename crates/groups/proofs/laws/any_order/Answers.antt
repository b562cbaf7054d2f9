use Rattle.groups.proofs.FoldsLemmas.{folds_any_order}
use Rattle.groups.proofs.JoinLemmas.{stands_any_order}
use Rattle.groups.proofs.ReportLemmas.{report_any_order}
use Rattle.groups.proofs.laws.any_order.Goals as goal

pub returns-clause-report : goal.returns-clause-report
returns-clause-report g c = report_any_order

pub returns-clause-stands : goal.returns-clause-stands
returns-clause-stands g c = stands_any_order g.H.KeyHash-2.hash_of

pub returns-clause-folds : goal.returns-clause-folds
returns-clause-folds g c = folds_any_order _
