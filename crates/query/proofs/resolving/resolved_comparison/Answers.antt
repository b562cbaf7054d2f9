use Rattle.std.proofs.Common.{refl, sym}
use Rattle.std.proofs.lemmas.List.Sums.{fold-append}
use Rattle.query.specs.Names.{operand_leaves}
use Rattle.query.proofs.resolving.resolved_comparison.Goals as goal

pub returns-clause-resolved : goal.returns-clause-resolved
returns-clause-resolved g c =
    let first = rw c.in_ok-right.ensures.0 at c.resolved_operand.ensures.resolved in
    let behind = rw c.in_ok-right.ensures.0 at c.resolved_operand.ensures.after in
    let second = rw c.in_ok-left.ensures.0 at c.resolved_operand-2.ensures.resolved in
    rw (c.in_ok-left.ensures.1, first, second, c.in_ok-right.ensures.1, behind) refl

pub returns-clause-after : goal.returns-clause-after
returns-clause-after g c =
    let behind = rw c.in_ok-right.ensures.0 at c.resolved_operand.ensures.after in
    let end = rw c.in_ok-left.ensures.0 at c.resolved_operand-2.ensures.after in
    rw (end, c.in_ok-right.ensures.1, behind) (sym (fold-append g.R.Resolver.after c.args.resolver.now (operand_leaves c.args.left) (operand_leaves c.args.right)))
