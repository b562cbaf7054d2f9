use Rattle.std.proofs.Common.{length, arith, rules, sym, ap, ◌∙◌}
use Rattle.std.proofs.lemmas.Result.{IfErr-weaker, IfOk-weaker}
use Rattle.std.specs.Vec.Iter.{into_iter_items}
use Rattle.crew.proofs.ListsLemmas.{added, all_new, as_many, taken}
use Rattle.crew.proofs.running.fn.run_all.scope.Goals as goal

pub loop-seat-init : goal.loop-seat-init
loop-seat-init g c =
    let none = c.in_ok-begun.ensures.items in
    let seats = c.into_iter-seat-iterator.ensures.into_iter_gives.0 ∙ c.requires.0 in
    let new = all_new c.captures.deal.now (into_iter_items c.into_iter-seat-iterator.result) seats in
    record {
      many = rw none new.0;
      left = rw none new.1;
      started = rw none tt;
      refused = rw none tt;
      room = search rules;
    }

pub worker-requires-clause-seat : goal.worker-requires-clause-seat
worker-requires-clause-seat g c κs within =
    let old = into_iter_items c.loop-seat.seat-iterator in
    let new = into_iter_items c.next.new.self in
    let is = (taken _ (length c.loop-seat.begun.items) old new c.in-Some.seat c.in-Some.ensures.steps.0 c.loop-seat.invariant.left).0 in
    (record { table = ap (λ s. s.table) is; pieces = ap (λ s. s.pieces) is }, ap (λ s. s.seen) is)

pub loop-seat-preserved : goal.loop-seat-preserved
loop-seat-preserved g c =
    let l = c.loop-seat.invariant in
    let old = into_iter_items c.loop-seat.seat-iterator in
    let new = into_iter_items c.next.new.self in
    let begun = c.loop-seat.begun.items in
    let deal = c.captures.deal.now in
    let less = c.in-Some.ensures.steps.0 in
    let more = c.push_reserved.ensures.items in
    let one = c.worker.result in
    let turn = taken _ (length begun) old new c.in-Some.seat less l.left in
    let same = ap (λ s. s.number) turn.0 in
    let sum = as_many deal.seats begun c.push_reserved.new.self.items one old new c.in-Some.seat more less l.many in
    record {
      many = sum.0;
      left = rw sum.1 turn.1;
      started = added _ begun c.push_reserved.new.self.items one more l.started (IfOk-weaker one _ _ (λ handle so. (so.0, so.1, so.2 ∙ same)) c.worker.ensures.started);
      refused = added _ begun c.push_reserved.new.self.items one more l.refused (IfErr-weaker one _ _ (λ seat so. (so.0, so.1 ∙ same)) c.worker.ensures.refused);
      room = l.room ∙ sym c.push_reserved.ensures.capacity;
    }

pub joined-requires-clause-room : goal.joined-requires-clause-room
joined-requires-clause-room g c κs within =
    let l = c.loop-seat.invariant in
    let all = (all_new c.captures.deal.now c.captures.seats.items c.requires.0).0 in
    let seats = c.in_ok-with_capacity.ensures.exact in
    let given = c.in_ok-with_capacity-2.ensures.exact in
    let first = c.len.ensures in
    let second = c.len-2.ensures in
    let long = c.captures.seats.ok.0 in
    let begun = c.loop-seat.begun.ok.0 in
    (omega (arith, l.many, all, seats, first, long, begun), omega (arith, l.many, all, given, second, long, begun))
