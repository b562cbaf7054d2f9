use Rattle.std.proofs.Common.{◌≡◌, ◌<◌, ◌≤◌, Err, ap, refl, rules, subst}
use Rattle.std.proofs.lemmas.Result.{err_from_is_err_and}
use Rattle.std.specs.FinMap.{len}
use Rattle.cells.specs.CellOrder.{cell_cmp}
use Rattle.cells.specs.RowsFit.{rows_over}
use Rattle.cells.specs.Tables.{laid_over}
use Rattle.cells.specs.declared.refused.Refused.TheVariants.{TooManyRows}
use Rattle.trie.specs.Maps.{map_of}
use Rattle.board.specs.Editions.{draft, limit}
use Rattle.board.proofs.EditionsLemmas.{changes_as, kept_draft}
use Rattle.board.proofs.ledger.Ledger.absorb.Goals as goal

pub invariant_of-self : goal.invariant_of-self
invariant_of-self g c =
    let later = map_of cell_cmp c.args.rows in
    let kept = c.self.invariant in
    let fit = rows_over c.self.inside.last.schema later c.self.inside.draft c.in_ok-self-inside.field-0 (λ q. c.later_puts_lie_over.ensures.stands later c.self.inside.draft q)
    c.in_ok-self-inside.ensures.laid (search rules) kept.drafted in
    let within : len c.in_ok-self-inside.field-0 ≤ c.self.inside.limit = search rules in
    kept_draft _ _ kept fit within

pub returns-clause-draft : goal.returns-clause-draft
returns-clause-draft g c =
    changes_as _ _ _ (map_of cell_cmp c.args.rows) c.self.view_is
    (record { draft = c.in_ok-self-inside.ensures.laid; limit = refl; edition = refl; published = refl; schema = refl; history = refl; board = refl })

pub returns-in_err-self-inside-clause-full : goal.returns-in_err-self-inside-clause-full
returns-in_err-self-inside-clause-full g c = λ full.
    let p = err_from_is_err_and c.from_residual.result c.from_residual.ensures.1 in
    let why : c.in_err-self-inside.field-0.0 ≡ TooManyRows = cc (full, p.1, p.2) in
    subst (λ k. limit k < len (laid_over (map_of cell_cmp c.args.rows) (draft k))) c.self.view_is (c.in_err-self-inside.ensures.full (ap Err why))
