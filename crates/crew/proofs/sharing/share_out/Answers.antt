use Rattle.std.proofs.Common.{arith, ap, ◌∙◌, subst, length, ◌≤◌}
use Rattle.std.proofs.lemmas.List.{length-map}
use Rattle.std.proofs.lemmas.Result.{IfOk-weaker}
use Rattle.crew.specs.Seats.{DealValue}
use Rattle.crew.specs.Shares.{AreShared}
use Rattle.crew.specs.Works.{given_of}
use Rattle.crew.proofs.ListsLemmas.{all_new}
use Rattle.crew.proofs.SharesLemmas.{numbers, seats_ours, shared}
use Rattle.crew.proofs.sharing.share_out.Goals as goal

pub close-requires : goal.close-requires
close-requires g c =
    let deal : DealValue = c.in_ok-deal.deal in
    let makes = g.K.Task.makes c.args.task.now in
    let back = c.in_ok-seats.field-0 in
    record {
      seats = seats_ours deal makes back.seats.items back.given.items c.in_ok-seats.ensures.back;
      all = numbers deal makes back.seats.items back.given.items c.in_ok-seats.ensures.back;
    }

pub all_given-requires : goal.all_given-requires
all_given-requires g c =
    let back = c.in_ok-seats.ensures.back in
    let given = c.in_ok-seats.field-0.given in
    let new = (all_new c.in_ok-deal.deal c.in_ok-deal.seats.items c.in_ok-deal.ensures.seats).0 in
    let room = c.in_ok-all.ensures.exact in
    (c.in_ok-all.ensures.items, omega (arith, given.ok.0, ap length back.given_are, length-map back.all given_of, back.many, new, room, c.len.ensures, c.in_ok-deal.seats.ok.0))

pub returns-clause-shared : goal.returns-clause-shared
returns-clause-shared g c =
    let deal : DealValue = c.in_ok-deal.deal in
    let made = c.in_ok-deal.ensures.deal in
    let makes = g.K.Task.makes c.args.task.now in
    let back = c.in_ok-seats.field-0 in
    let seats = made.1 ∙ c.min-workers.ensures in
    let some_place = c.if-count-eq0.false in
    let some_worker = c.workers_of.ensures in
    let some_seat : 1 ≤ deal.seats = omega arith in
    let rise = c.draws_rise.ensures in
    IfOk-weaker c.all_given.result _ _
    (λ v given. subst (λ n. AreShared makes n v.items) made.0
    (shared deal makes rise.rising rise.below back.seats.items back.given.items v.items c.close.result.drawn c.in_ok-seats.ensures.back given some_seat c.close.ensures.all c.close.ensures.together))
    c.all_given.ensures.given
