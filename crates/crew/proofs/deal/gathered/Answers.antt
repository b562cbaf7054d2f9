use Rattle.std.proofs.Common.{◌≡◌, ◌++◌, [], ◌∷◌, map, All, arith, refl, rules, sym, ap, ◌∙◌, subst, append_assoc}
use Rattle.std.specs.Vec.Iter.{into_iter_items}
use Rattle.crew.specs.Seats.{SeatValue, sight_of}
use Rattle.crew.proofs.RuleLemmas.{joins}
use Rattle.crew.proofs.SeatLemmas.{one_table}
use Rattle.crew.proofs.deal.gathered.Goals as goal

pub loop-seat-init : goal.loop-seat-init
loop-seat-init c =
    let table = c.args.shared.now.table_id in
    let behind = into_iter_items c.next.new.self in
    let split : c.args.seats.items ≡ c.in-Some.first ∷ behind = sym c.into_iter-rest.ensures.rest ∙ c.in-Some.ensures.items in
    let ours = one_table table c.args.seats.items c.in-Some.first behind split c.requires.seats.1 in
    let same : behind ≡ into_iter_items c.into_iter-seat-iterator.result = search rules in
    record {
      here = ap (λ v. v.table) c.first.view_is ∙ ours.0;
      all = refl;
      ours = subst (All (λ (seat : SeatValue). seat.table ≡ table)) same ours.1;
    }

pub join_seat-requires : goal.join_seat-requires
join_seat-requires c =
    let l = c.loop-seat.invariant in
    let shared = c.args.shared.now in
    let token = c.seat.inside.token in
    let ours = one_table shared.table_id (into_iter_items c.loop-seat.seat-iterator) c.in-Some-seat.seat (into_iter_items c.next-in-loop-seat.new.self) c.in-Some-seat.ensures.steps.0 l.ours in (
      l.here,
      ap (λ v. v.table) c.seat.view_is ∙ ours.0,
      ap (λ m. m.1) c.seat.invariant.0,
      omega (arith, c.requires.table),
      joins shared.key.pieces shared.key.seats c.loop-seat.keeper.id token.id c.loop-seat.keeper.me.0 token.me.0,
    )

pub loop-seat-preserved : goal.loop-seat-preserved
loop-seat-preserved c =
    let l = c.loop-seat.invariant in
    let known = c.loop-seat.keeper.me.0 in
    let token = c.seat.inside.token in
    let step = c.join_seat.ensures in
    let rest = into_iter_items c.next-in-loop-seat.new.self in
    let split = c.in-Some-seat.ensures.steps.0 in
    let sole = ap (λ m. m.0) c.seat.invariant.0 ∙ ap (λ v. sight_of v ∷ []) c.seat.view_is in
    record {
      here = step.0 ∙ l.here;
      all = ap (λ m. m.0 ++ map sight_of rest) step.2
          ∙ (append_assoc known token.me.0 (map sight_of rest)
          ∙ (ap (λ o. known ++ (o ++ map sight_of rest)) sole
          ∙ (ap (λ o. known ++ map sight_of o) (sym split) ∙ l.all)));
      ours = (one_table c.args.shared.now.table_id (into_iter_items c.loop-seat.seat-iterator) c.in-Some-seat.seat rest split l.ours).1;
    }
