use Rattle.std.proofs.Common.{[], ◌∷◌, ap, arith, rules, subst, ◌∙◌}
use Rattle.columns.specs.Coding.{Recode}
use Rattle.columns.proofs.ColumnsLemmas.{gives_made, numbers_all, numbers_next}
use Rattle.columns.proofs.code_column.CodeColumn.make_list.Goals as goal

pub loop-code-preserved : goal.loop-code-preserved
loop-code-preserved c =
    numbers_next c.deref-code-items.result.now c.args.self.now.by_row c.loop-code.code-index c.number_cell.result c.loop-code.list c.code_of.new.self c.loop-code.codes.items c.push.new.self.items
    c.in_ok-code.code (c.deref-code-items.ensures.value ∙ ap (λ v. v.by_row) c.self.view_is) (omega (arith, c.loop-code-test.true, c.loop-code.auto.code-index-end)) c.number_cell.ensures c.loop-code.invariant
    (subst (λ cell. Recode (cell ∷ []) c.loop-code.list c.code_of.new.self (c.in_ok-code.code ∷ [])) c.of.ensures c.in_ok-code.ensures.code) c.in_ok-push.ensures.items

pub returns : goal.returns
returns c =
    gives_made c.args.self.now _ c.loop-code.list c.loop-code.codes.items c.requires (search rules)
    (numbers_all c.deref-code-items.result.now c.args.self.now.by_row c.loop-code.code-index c.loop-code.list c.loop-code.codes.items (c.deref-code-items.ensures.value ∙ ap (λ v. v.by_row) c.self.view_is)
    (omega (arith, c.loop-code-test.false, c.loop-code.auto.code-index-end)) c.loop-code.invariant)
