use Rattle.std.proofs.Common.{◌≡◌, ◌≤◌, ℕ, List, length, sym, ap, ◌∙◌, arith}
use Rattle.std.proofs.lemmas.Bool.{ltb-false}
use Rattle.crew.specs.Law.{only}
use Rattle.crew.specs.Seats.{is_finished}
use Rattle.crew.proofs.RuleLemmas.{draws_as}
use Rattle.crew.proofs.deal.Deal.draw.Goals as goal

pub fetch_add-place-requires : goal.fetch_add-place-requires
fetch_add-place-requires c =
    let deal = c.self.inside in
    let seat = c.seat.inside in
    let kept = c.self.invariant in
    let same_table : seat.token.table_id ≡ deal.table.shared.table_id = ap (λ v. v.table) c.seat.view_is ∙ (c.requires.seat.table ∙ sym (ap (λ v. v.table) c.self.view_is)) in
    let same_pieces : seat.pieces ≡ deal.pieces = ap (λ v. v.pieces) c.seat.view_is ∙ (c.requires.seat.pieces ∙ sym (ap (λ v. v.pieces) c.self.view_is)) in
    let seen : List ℕ = (only seat.token.me.0).seen in
    let early : length seen ≤ seat.pieces = ltb-false seat.pieces (length seen) (ap is_finished c.seat.view_is ∙ c.requires.early) in (
      same_table,
      omega arith,
      draws_as deal.table.shared.key.pieces deal.table.shared.key.seats deal.table.shared.table_id.slots seat.token.id seat.token.me seat.number seen c.seat.invariant.0 kept.1 (omega arith) kept.5 (omega arith),
    )
