use Rattle.std.proofs.Common.{rules, refl, ap}
use Rattle.board.proofs.RuleLemmas.{grabs}
use Rattle.board.proofs.SeatLemmas.{side_of}
use Rattle.board.proofs.boxes.take_side.Goals as goal

pub load-found-requires : goal.load-found-requires
load-found-requires g c =
    let at = c.requires.ready in
    let key = c.args.boxes.now.key in
    (search rules, search rules, grabs key.places key.schema.value _ c.args.seat.now.id c.args.seat.now.me _ c.args.word (ap (λ m. m.0.role) at) refl (ap (λ m. m.1) at) (search rules) (search rules))

pub returns-then-found-lt2-clause-taken : goal.returns-then-found-lt2-clause-taken
returns-then-found-lt2-clause-taken g c =
    let t = c.load-found.ensures.2.1 c.if-found-lt2.true in
    side_of _ _ _ _ t.0 c.if-found-lt2.true (search rules) c.requires.ready t.1
