use Rattle.board.proofs.EditionsLemmas.{kept_draft, remove_within}
use Rattle.cells.specs.RowsFit.{rows_remove}
use Rattle.board.proofs.ledger.Ledger.delete.Goals as goal

-- whatever key is taken out
pub invariant_of-self : goal.invariant_of-self
invariant_of-self g c =
    let kept = c.self.invariant in
    let fit = rows_remove c.self.inside.last.schema c.self.inside.draft c.in_ok-self-inside.field-0 _ c.in_ok-self-inside.ensures kept.drafted in
    let within = remove_within c.self.inside.draft c.in_ok-self-inside.field-0 _ c.self.inside.limit c.in_ok-self-inside.ensures kept.within in
    kept_draft _ _ kept fit within
