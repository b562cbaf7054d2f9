use Rattle.std.proofs.Common.{◌≡◌, ap, rules, sym}
use Rattle.std.proofs.Math.Nat.{le_refl}
use Rattle.std.specs.List.{flat_map, fold}
use Rattle.query.specs.Names.{test_leaves, tests_of_each}
use Rattle.query.specs.Trees.{predicates_of, predicates_size}
use Rattle.query.proofs.ResolvingLemmas.{begins}
use Rattle.query.proofs.resolving.+resolving.Goals as goal

pub resolved_each-loop-predicate-init : goal.resolved_each-loop-predicate-init
resolved_each-loop-predicate-init g t c =
    let all : c.into_iter-predicate-iterator.result.rest.items ≡ c.args.predicates.items = search rules in
    record {
      is = begins g.R.Resolver.index g.R.Resolver.after c.args.resolver.now c.args.predicates.items c.into_iter-predicate-iterator.result.rest.items c.new-made.result.items all c.new-made.ensures.items;
      after = ap (λ ps. fold g.R.Resolver.after c.args.resolver.now (flat_map test_leaves (tests_of_each (predicates_of ps)))) (sym all);
      left = rw all (le_refl (predicates_size (predicates_of c.args.predicates.items)));
    }
