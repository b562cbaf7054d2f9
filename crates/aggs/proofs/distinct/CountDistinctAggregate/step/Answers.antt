use Rattle.std.proofs.Common.{◌≡◌, ◌∙◌, sym, arith, rules}
use Rattle.std.specs.FinSet.{insert}
use Rattle.aggs.proofs.DifferingLemmas.{new_is_one, new_needed, new_stepped, null_stepped, old_stepped}
use Rattle.aggs.proofs.NeededLemmas.{on_err}
use Rattle.aggs.proofs.distinct.CountDistinctAggregate.step.Goals as goal

pub returns-then-is_null-clause-stepped : goal.returns-then-is_null-clause-stepped
returns-then-is_null-clause-stepped g c = null_stepped c.args.self.now c.args.cell.now (sym c.is_null.ensures ∙ c.if-is_null.true)

pub returns-then-contains-clause-stepped : goal.returns-then-contains-clause-stepped
returns-then-contains-clause-stepped g c =
    old_stepped c.args.self.now c.args.cell.now (sym c.is_null.ensures ∙ c.if-is_null.false) (sym c.contains.ensures ∙ c.if-contains.true)

pub with_cell-requires : goal.with_cell-requires
with_cell-requires g c =
    let one = new_is_one c.args.cell.now (sym c.is_null.ensures ∙ c.if-is_null.false) in
    omega (arith, one, c.requires)

pub returns-clause-stepped : goal.returns-clause-stepped
returns-clause-stepped g c =
    let is : c.in_ok-self.field-0 ≡ insert c.args.self.now c.args.cell.now = search rules in
    is ∙ new_stepped c.args.self.now c.args.cell.now (sym c.is_null.ensures ∙ c.if-is_null.false)

pub returns-in_err-self-clause-needed : goal.returns-in_err-self-clause-needed
returns-in_err-self-clause-needed g c =
    on_err c.from_residual.result (new_needed c.args.self.now c.args.cell.now (sym c.is_null.ensures ∙ c.if-is_null.false) (sym c.contains.ensures ∙ c.if-contains.false))
