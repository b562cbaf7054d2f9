use Rattle.std.proofs.Common.{sym, ◌∙◌, subst}
use Rattle.board.specs.Law.{IsEnd}
use Rattle.board.proofs.SeatLemmas.{end_of}
use Rattle.board.proofs.writer.Writer.publish.Goals as goal

pub fill_all-requires-clause-last : goal.fill_all-requires-clause-last
fill_all-requires-clause-last g c =
    let seat = c.append-next.new.seat in
    let end : IsEnd seat.me.0.seen seat.me.0.schema c.args.next =
    end_of c.args.self.now.seat.me.0.seen seat.me.0.seen seat.me.0.schema c.args.next c.requires.next.0 (c.requires.next.2 ∙ sym c.append-next.ensures.same.3) c.append-next.ensures.seen in
    λ k x low. subst (IsEnd seat.me.0.seen seat.me.0.schema) (sym (c.requires.copies.1 k x low)) end
