use Rattle.std.proofs.Common.{rules, ◌≡◌, ap, ◌∙◌}
use Rattle.board.specs.Ends.{known}
use Rattle.board.specs.declared.law.View.{View}
use Rattle.board.proofs.RuleLemmas.{learns}
use Rattle.board.proofs.reader.Reader.learn.Goals as goal

pub join_seat-requires : goal.join_seat-requires
join_seat-requires g c =
    let s = c.into_seat-seat.result in
    let t = c.into_seat.result in
    let key = c.deref.result.now.shared.key in
    let v : t.me.0 ≡ known c.args.told = search rules in
    (search rules, search rules, search rules, search rules, learns key.places key.schema.value s.id s.me.0 t.id t.me.0 (ap (λ (x : View). x.role) v ∙ c.requires.note.1))
