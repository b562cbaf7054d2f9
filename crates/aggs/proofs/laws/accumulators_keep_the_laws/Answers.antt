use Rattle.aggs.specs.Accs.{acc_any_order, acc_finishes, acc_joins, acc_kind, acc_room, acc_unit_first, acc_unit_second}
use Rattle.aggs.proofs.laws.accumulators_keep_the_laws.Goals as goal

pub returns-clause-kind : goal.returns-clause-kind
returns-clause-kind g c = λ k xs. acc_kind _ k xs

pub returns-clause-joins : goal.returns-clause-joins
returns-clause-joins g c = λ k xs ys. acc_joins k xs ys

pub returns-clause-unit_first : goal.returns-clause-unit_first
returns-clause-unit_first g c = λ a. acc_unit_first a

pub returns-clause-unit_second : goal.returns-clause-unit_second
returns-clause-unit_second g c = λ a. acc_unit_second a

pub returns-clause-any_order : goal.returns-clause-any_order
returns-clause-any_order g c = λ k xs ys p. acc_any_order k xs ys p

pub returns-clause-finishes : goal.returns-clause-finishes
returns-clause-finishes g c = λ k xs. acc_finishes _ k xs

pub returns-clause-room : goal.returns-clause-room
returns-clause-room g c = λ k xs ys few. acc_room _ k xs ys few
