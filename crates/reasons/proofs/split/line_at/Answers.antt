use Rattle.std.proofs.Common.{◌-◌, ◌∙◌, arith}
use Rattle.reasons.proofs.LinesLemmas.{inner_number, last_number, past_number}
use Rattle.reasons.proofs.split.line_at.Goals as goal

pub returns-then-number-lines : goal.returns-then-number-lines
returns-then-number-lines c = past_number c.args.lines.now c.args.number (omega arith)

pub returns-then-number-lines-2 : goal.returns-then-number-lines-2
returns-then-number-lines-2 c = last_number c.args.lines.now c.args.number (c.args.number - 1) _ (omega arith) (omega arith)

pub returns : goal.returns
returns c = c.without_return.ensures ∙ inner_number c.args.lines.now c.args.number (c.args.number - 1) _ (omega arith) (omega arith)
