use Rattle.std.proofs.Common.{◌+◌, [], ◌∷◌, ◌++◌, arith, refl, sym, ap, ◌∙◌}
use Rattle.std.proofs.lemmas.Bool.{le-ltb}
use Rattle.std.proofs.lemmas.List.FromFn.{map-range_with_len_more}
use Rattle.crew.specs.Law.{only}
use Rattle.crew.specs.Seats.{DealValue, new_seat}
use Rattle.crew.proofs.SeatLemmas.{given_one}
use Rattle.crew.proofs.RuleLemmas.{begins, splits_as}
use Rattle.crew.proofs.deal.Deal.new.Goals as goal

pub of_words-requires : goal.of_words-requires
of_words-requires c = begins c.args.pieces c.args.seats []

pub split_seat-token-requires : goal.split_seat-token-requires
split_seat-token-requires c =
    let made = c.in_ok-table.ensures in
    let l = c.loop-number.invariant in
    (l.here, omega (arith, made.0), splits_as c.in_ok-table.table.shared.key.pieces c.in_ok-table.table.shared.key.seats c.loop-number.keeper.id c.loop-number.keeper.me.0 c.loop-number.number c.args.seats (omega arith) (ap (λ m. m.0) l.knows))

pub invariant_of-push_reserved : goal.invariant_of-push_reserved
invariant_of-push_reserved c =
    let one = given_one c.loop-number.keeper.me.0 c.loop-number.number c.args.seats (omega arith) (ap (λ m. m.0) c.loop-number.invariant.knows) in
    let new = c.split_seat-token.ensures.4 ∙ ap (λ v. (v, [])) one.0 in
    rw new (refl, sym (le-ltb c.args.pieces 0 (omega arith)))

pub loop-number-preserved : goal.loop-number-preserved
loop-number-preserved c =
    let l = c.loop-number.invariant in
    let step = c.split_seat-token.ensures in
    let one = given_one c.loop-number.keeper.me.0 c.loop-number.number c.args.seats (omega arith) (ap (λ m. m.0) l.knows) in
    let same = step.3 ∙ l.here in
    let sole = ap (λ m. only m.0) step.4 ∙ ap only one.0 in
    let deal : DealValue = record { table = c.in_ok-table.table.shared.table_id; pieces = c.args.pieces; seats = c.args.seats } in
    record {
      knows = step.2 ∙ (λ i. (one.1 i, (l.knows i).1));
      here = step.0 ∙ l.here;
      made = c.push_reserved.ensures.items
          ∙ ((λ i. l.made i ++ record { table = same i; pieces = c.args.pieces; number = c.loop-number.number; seen = (sole i).seen } ∷ [])
          ∙ sym (map-range_with_len_more (new_seat deal) 0 c.loop-number.number c.loop-number.number (omega arith)));
      count = c.push_reserved.ensures.len ∙ ap (λ n. n + 1) l.count;
      room = c.push_reserved.ensures.capacity ∙ l.room;
    }
