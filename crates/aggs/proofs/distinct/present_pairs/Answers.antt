use Rattle.std.proofs.Common.{◌≡◌, ◌++◌, ap, subst}
use Rattle.std.specs.Map.{keys_of}
use Rattle.aggs.specs.Values.{present}
use Rattle.aggs.proofs.DifferingLemmas.{key_more}
use Rattle.aggs.proofs.distinct.present_pairs.Goals as goal

pub loop-cell-init : goal.loop-cell-init
loop-cell-init c = rw c.in_ok-pairs.ensures.items (ap present c.into_iter-cell-iterator.ensures.into_iter_gives.0)

pub loop-cell-preserved : goal.loop-cell-preserved
loop-cell-preserved c =
    let keys = keys_of c.loop-cell.pairs.items in
    key_more keys (keys_of c.push_present.new.pairs.items) c.next.new.self.rest.items c.args.cells.items c.in-Some.cell
    (subst (λ l. keys ++ present l ≡ present c.args.cells.items) c.in-Some.ensures.steps.0 c.loop-cell.invariant) c.in_ok-push_present.ensures
