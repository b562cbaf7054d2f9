use Rattle.std.proofs.Common.{◌∙◌, sym}
use Rattle.std.proofs.lemmas.Result.{err_from_is_err_and}
use Rattle.query.proofs.Lists.{turn_err, turn_found}
use Rattle.query.proofs.TestsLemmas.{operand_leaf, operand_literal}
use Rattle.query.proofs.phrases.operand.Goals as goal

pub returns-then-begins_literal-clause-reads : goal.returns-then-begins_literal-clause-reads
returns-then-begins_literal-clause-reads g c = turn_found (operand_literal g.met.C.Leaf.begins c.args.tokens.now (sym c.begins_literal.ensures ∙ c.if-begins_literal.true)) c.in_ok-literal.ensures.reads

pub returns-clause-reads : goal.returns-clause-reads
returns-clause-reads g c = turn_found (operand_leaf c.args.tokens.now (sym c.begins_literal.ensures ∙ c.if-begins_literal.false)) c.in_ok-leaf.ensures.reads

pub returns-then-begins_literal-clause-shorter : goal.returns-then-begins_literal-clause-shorter
returns-then-begins_literal-clause-shorter g c = c.in_ok-literal.ensures.shorter

pub returns-clause-shorter : goal.returns-clause-shorter
returns-clause-shorter g c = c.in_ok-leaf.ensures.shorter

pub returns-in_err-literal-clause-reads : goal.returns-in_err-literal-clause-reads
returns-in_err-literal-clause-reads g c =
    let p = err_from_is_err_and c.from_residual.result c.from_residual.ensures.1 in
    rw (p.1, p.2) (turn_err (operand_literal g.met.C.Leaf.begins c.args.tokens.now (sym c.begins_literal.ensures ∙ c.if-begins_literal.true)) c.in_err-literal.ensures.reads)

pub returns-in_err-leaf-clause-reads : goal.returns-in_err-leaf-clause-reads
returns-in_err-leaf-clause-reads g c =
    let p = err_from_is_err_and c.from_residual-in_err-leaf.result c.from_residual-in_err-leaf.ensures.1 in
    rw (p.1, p.2) (turn_err (operand_leaf c.args.tokens.now (sym c.begins_literal.ensures ∙ c.if-begins_literal.false)) c.in_err-leaf.ensures.reads)
