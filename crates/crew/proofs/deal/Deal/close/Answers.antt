use Rattle.std.proofs.Common.{List, arith, sym, ap, ◌∙◌}
use Rattle.std.specs.Slots.{slots_items}
use Rattle.crew.specs.Seats.{DealValue, SeatValue}
use Rattle.crew.proofs.SeatLemmas.{at_the_table}
use Rattle.crew.proofs.TogetherLemmas.{all_drawn, drawn_together, ended}
use Rattle.crew.proofs.deal.Deal.close.Goals as goal

pub gathered-keeper-requires-clause-seats : goal.gathered-keeper-requires-clause-seats
gathered-keeper-requires-clause-seats c =
    let view = c.self.view_is in
    at_the_table c.args.self c.self.inside.table.shared.table_id c.args.seats.items (sym (ap (λ v. v.table) view)) (omega (arith, ap (λ v. v.seats) view)) c.requires.seats c.requires.all

pub returns : goal.returns
returns c =
    let deal : DealValue = c.args.self in
    let seats : List SeatValue = c.args.seats.items in
    let pieces = ap (λ (v : DealValue). v.pieces) c.self.view_is in
    let key = c.self.inside.table.shared.key in
    let keeper = c.gathered-keeper in
    let last = c.close_with-closed.ensures.values.2 in
    let draws = c.word-draws.result in
    let e = ended deal seats key.pieces key.seats keeper.result.id keeper.result.me.0 (slots_items c.close_with-closed.result.words) draws last.0 (c.self.invariant.2 ∙ pieces) (ap (λ (v : DealValue). v.seats) c.self.view_is) c.requires.seats c.requires.all keeper.ensures.1 last.1.0 last.1.1 last.2 c.word-draws.ensures in
    record {
      history = (e.history, e.begins, omega (arith, e.counts, pieces));
      all = all_drawn deal seats draws _ e c.requires.seats (omega (arith, e.counts, pieces));
      together = drawn_together deal seats draws _ e (omega (arith, e.counts, pieces));
    }
