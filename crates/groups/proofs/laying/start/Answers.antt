use Rattle.std.proofs.Common.{List, length, arith, ap, ◌∙◌}
use Rattle.std.proofs.lemmas.Result.{IfOk-weaker}
use Rattle.groups.proofs.LayingLemmas.{fits_none, is_nil, not_nil, started_empty, started_other}
use Rattle.groups.proofs.laying.start.Goals as goal

pub returns-then-not-is_empty : goal.returns-then-not-is_empty
returns-then-not-is_empty g c =
    started_other g.H.KeyHash-2.hash_of c.args.aggregations.now c.args.set.now c.empty-nothing.result
    (not_nil c.args.set.now c.if-not-is_empty.ensures) c.empty-nothing.ensures

pub with_group-requires-clause-room : goal.with_group-requires-clause-room
with_group-requires-clause-room g c = omega (arith, ap (λ (l : List _). length l) c.empty-nothing.ensures)

pub with_group-requires-clause-fit : goal.with_group-requires-clause-fit
with_group-requires-clause-fit g c = fits_none g.H.KeyHash-2.hash_of c.empty-nothing.result c.new-2.result c.in_ok-accumulators.accumulators c.empty-nothing.ensures

pub returns : goal.returns
returns g c =
    IfOk-weaker c.with_group.result _ _ (λ t lays.
    started_empty g.H.KeyHash-2.hash_of c.args.aggregations.now c.args.set.now c.new-2.result c.in_ok-accumulators.accumulators c.empty-nothing.result t
    (is_nil c.args.set.now c.if-not-is_empty.ensures) (c.new-2.ensures ∙ c.new.ensures.items) c.in_ok-accumulators.ensures c.empty-nothing.ensures lays)
    c.with_group.ensures
