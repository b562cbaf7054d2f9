use Rattle.std.proofs.Common.{length, arith, rules, ap}
use Rattle.std.proofs.lemmas.Result.{IfErr-weaker, IfOk-weaker}
use Rattle.std.specs.Vec.Iter.{into_iter_items}
use Rattle.crew.specs.Works.{IsBack}
use Rattle.crew.proofs.BackLemmas.{reached_more, reached_none}
use Rattle.crew.proofs.ListsLemmas.{as_many, taken, whichever}
use Rattle.crew.proofs.running.Start.joined.Goals as goal

pub loop-one-init : goal.loop-one-init
loop-one-init g c =
    let items = c.into_iter-one-iterator.ensures.into_iter_gives.0 in
    let none = c.requires.empty.0 in
    record {
      reached = reached_none c.args.self.now.deal.now (g.K.Task.makes c.args.self.now.task.now) _ _ none c.requires.empty.1;
      many = omega (arith, c.requires.many, ap length items, ap length none);
      started = rw (none, items) c.requires.started;
      refused = rw (none, items) c.requires.refused;
      seats_room = search rules;
      given_room = search rules;
    }

pub loop-one-preserved : goal.loop-one-preserved
loop-one-preserved g c =
    let l = c.loop-one.invariant in
    let deal = c.args.self.now.deal.now in
    let makes = g.K.Task.makes c.args.self.now.task.now in
    let seats = c.loop-one.seats.items in
    let n = length seats in
    let old = into_iter_items c.loop-one.one-iterator in
    let new = into_iter_items c.next.new.self in
    let one = c.in-Some.one in
    let back = c.back-back.result in
    let less = c.in-Some.ensures.steps.0 in
    let more = c.push_reserved.ensures.items in
    let sum = as_many deal.seats seats c.push_reserved.new.self.items back.seat old new one more less l.many in
    let started = taken _ n old new one less l.started in
    let refused = taken _ n old new one less l.refused in
    let is : IsBack deal makes n back =
    whichever (λ number. IsBack deal makes number back) (λ handle. handle.promise.number) (λ seat. seat.number) n one
    (IfOk-weaker one _ _ (λ handle so. so.2) started.0) (IfErr-weaker one _ _ (λ seat so. so.1) refused.0) c.back-back.ensures.started c.back-back.ensures.refused in
    record {
      reached = reached_more deal makes seats c.push_reserved.new.self.items c.loop-one.given.items c.push_reserved-in-loop-one.new.self.items back more c.push_reserved-in-loop-one.ensures.items l.reached is;
      many = sum.0;
      started = rw sum.1 started.1;
      refused = rw sum.1 refused.1;
      seats_room = search rules;
      given_room = search rules;
    }
