use Rattle.std.proofs.Common.{◌≤◌, rules}
use Rattle.std.specs.FinMap.{len}
use Rattle.cells.specs.RowsFit.{rows_stay}
use Rattle.cells.specs.Tables.{AreRowsOf}
use Rattle.board.proofs.EditionsLemmas.{kept_draft}
use Rattle.board.proofs.ledger.Ledger.put.Goals as goal

pub invariant_of-self : goal.invariant_of-self
invariant_of-self g c =
    let fit : AreRowsOf c.self.inside.last.schema c.in_ok-self-inside.field-0 = search (rules, rows_stay) in
    let within : len c.in_ok-self-inside.field-0 ≤ c.self.inside.limit = search rules in
    kept_draft _ _ c.self.invariant fit within
