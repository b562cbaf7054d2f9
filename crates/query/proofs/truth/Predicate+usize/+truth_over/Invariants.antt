use Rattle.std.proofs.Common.{◌≡◌, drop}
use Rattle.query.specs.Trees.{predicates_of}
use Rattle.query.specs.Truth.{all_truth, and_truth, any_truth, or_truth, truth, value_at}
use Rattle.query.proofs.truth.Predicate+usize.+truth_over.Given as goal

abbrev pub invariant-loop-predicate : goal.invariant-loop-predicate
invariant-loop-predicate g l = truth l.self (g.S.Values.totals l.values) ≡ or_truth l.any (any_truth (value_at (g.S.Values.totals l.values)) (predicates_of (drop l.predicate-index l.predicate-items)))

abbrev pub invariant-loop-predicate-2 : goal.invariant-loop-predicate-2
invariant-loop-predicate-2 g l = truth l.self (g.S.Values.totals l.values) ≡ and_truth l.all (all_truth (value_at (g.S.Values.totals l.values)) (predicates_of (drop l.predicate-index l.predicate-items)))
