use Rattle.std.proofs.Common.{rules, arith, ◌≡◌, ap}
use Rattle.board.proofs.RuleLemmas.{publishes}
use Rattle.board.proofs.writer.append.Goals as goal

pub compare_exchange_with-requires : goal.compare_exchange_with-requires
compare_exchange_with-requires g c =
    let key = c.args.boxes.now.key in
    let number = c.edition-number.result in
    let is : number ≡ c.args.edition.number = c.edition-number.ensures in
    let some = c.requires.next.1 in
    let long = c.requires.next.0 in
    (search rules, search rules, publishes key.places key.schema.value _ c.args.seat.now.id c.args.seat.now.me _ c.args.edition _ number (omega arith) (ap (λ m. m.0.role) c.requires.ready) (omega arith))
