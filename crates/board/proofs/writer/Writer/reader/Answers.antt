use Rattle.std.proofs.Common.{rules, arith, ◌≡◌, ◌+◌, ◌<◌, ap, ◌∙◌}
use Rattle.board.specs.Ends.{progress_at}
use Rattle.board.proofs.RuleLemmas.{seats}
use Rattle.board.proofs.writer.Writer.reader.Goals as goal

pub split_seat-seat-requires : goal.split_seat-seat-requires
split_seat-seat-requires g c =
    let w = c.args.self.now in
    let key = c.deref.result.now.shared.key in
    let seat = c.fill_new.new.seat in
    let many = ap (λ t. t.shared.key.places) c.deref.ensures ∙ w.sized.0 in
    let made : (progress_at seat).made ≡ w.made = c.fill_new.ensures.made ∙ w.counted.0 in
    let room : (progress_at seat).made < key.places = (let b = c.if-self.false in omega arith) in
    let done : (progress_at seat).made < w.made + 1 = omega arith in
    (search rules, search rules, seats key.places key.schema.value seat.id seat.me.0 _ (ap (λ m. m.0.role) c.fill_new.ensures.at) done room)
