use Rattle.std.proofs.Common.{◌++◌, ◌∷◌, ◌∙◌, [], ap}
use Rattle.command.specs.Naming.{resolved, resolved_line}
use Rattle.command.proofs.NamingLemmas.{pieces_more}
use Rattle.command.proofs.naming.resolved_lines.Goals as goal

pub loop-line-preserved : goal.loop-line-preserved
loop-line-preserved c = pieces_more 10 (resolved_line c.args.names.now) (resolved c.args.names.now c.args.script.now)
    c.loop-line.text.items c.push.new.self.items c.loop-line.left.now c.loop-line.invariant c.in-Some.line.now c.in-Some.later.now c.in-Some.ensures.split
    (c.in_ok-push.ensures.items ∙ ap (λ text. text ++ 10 ∷ []) c.in_ok-push_line.ensures)
