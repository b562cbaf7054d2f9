use Rattle.std.proofs.Common.{◌++◌, ◌∙◌, ap, sym}
use Rattle.std.proofs.lemmas.List.Sums.{fold-append}
use Rattle.std.specs.List.{fold}
use Rattle.query.specs.Names.{operand_leaves}
use Rattle.query.proofs.resolving.resolved_between.Goals as goal

pub returns-clause-after : goal.returns-clause-after
returns-clause-after g c =
    let behind = rw c.in_ok-low.ensures.0 at c.resolved_operand.ensures.after in
    let further = rw c.in_ok-operand.ensures.0 at c.resolved_operand-2.ensures.after in
    let end = rw c.in_ok-operand-2.ensures.0 at c.resolved_operand-3.ensures.after in
    let bounds = c.in_ok-low.ensures.1 in
    let kept = c.in_ok-operand.ensures.1 in
    let after = g.R.Resolver.after in
    let start = c.args.resolver.now in
    let a = operand_leaves c.args.operand in
    let low = operand_leaves c.args.bounds.0 in
    let high = operand_leaves c.args.bounds.1 in
    rw (end, ap (λ x. x.1) kept ∙ ap (λ x. x.1) bounds, further, ap (λ x. x.0) bounds, behind)
    (sym (fold-append after start a (low ++ high) ∙ fold-append after (fold after start a) low high))
