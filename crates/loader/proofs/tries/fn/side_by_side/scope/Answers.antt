use Rattle.std.proofs.Common.{◌≡◌, [], arith, subst}
use Rattle.std.proofs.lemmas.List.{nil_from_length}
use Rattle.std.specs.Vec.Iter.{into_iter_items}
use Rattle.loader.specs.Shares.{all_in}
use Rattle.loader.specs.Tries.{HoldsAll}
use Rattle.loader.proofs.TriesLemmas.{begun_all}
use Rattle.loader.proofs.tries.fn.side_by_side.scope.Goals as goal

pub returns : goal.returns
returns g c =
    let iterator = c.loop-run.run-iterator in
    let none : into_iter_items iterator ≡ [] = nil_from_length (into_iter_items iterator) (omega (arith, iterator.rest.ok, c.in-None.ensures.steps.0)) in
    let given : into_iter_items c.into_iter-run-iterator.result ≡ c.captures.runs.items = c.into_iter-run-iterator.ensures.into_iter_gives.0 in
    record {
      held = subst (λ rows. HoldsAll rows c.in_ok-joined.field-0)
          (begun_all (λ thread. all_in thread.promise.shares.value.items) (λ run. all_in run.shares.items) c.loop-run.begun.items (into_iter_items iterator)
          (into_iter_items c.into_iter-run-iterator.result) c.captures.runs.items none c.loop-run.invariant given)
          c.in_ok-joined.ensures;
      refused = tt;
    }
