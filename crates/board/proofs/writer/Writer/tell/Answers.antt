use Rattle.std.proofs.Common.{rules, arith, ◌≡◌, ◌≤◌, ap, ◌∙◌}
use Rattle.board.specs.Ends.{progress_at}
use Rattle.board.specs.Law.{progress_of}
use Rattle.board.proofs.RuleLemmas.{tells}
use Rattle.board.proofs.writer.Writer.tell.Goals as goal

pub split_seat-note-requires : goal.split_seat-note-requires
split_seat-note-requires g c =
    let w = c.args.self.now in
    let key = c.deref.result.now.shared.key in
    let many = ap (λ t. t.shared.key.places) c.deref.ensures ∙ w.sized.0 in
    let made = w.counted.0 in
    let done : (progress_at w.seat).done ≡ w.made = ap (λ m. (progress_of m.0.role).done) w.resting in
    let room : (progress_at w.seat).made ≤ key.places = (let a = w.counted.1 in omega arith) in
    (search rules, search rules, tells key.places key.schema.value w.seat.id w.seat.me.0 _ (ap (λ m. m.0.role) w.resting) (let l : (progress_at w.seat).made ≤ w.made = omega arith in l) room)
