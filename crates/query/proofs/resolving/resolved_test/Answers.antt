use Rattle.std.proofs.Common.{refl}
use Rattle.query.proofs.resolving.resolved_test.Goals as goal

pub returns-in-Compare-clause-resolved : goal.returns-in-Compare-clause-resolved
returns-in-Compare-clause-resolved g c = rw c.in-Compare.is c.resolved_comparison.ensures.resolved

pub returns-in-Compare-clause-after : goal.returns-in-Compare-clause-after
returns-in-Compare-clause-after g c = rw c.in-Compare.is c.resolved_comparison.ensures.after

pub returns-in-Between-clause-resolved : goal.returns-in-Between-clause-resolved
returns-in-Between-clause-resolved g c = rw c.in-Between.is c.resolved_between.ensures.resolved

pub returns-in-Between-clause-after : goal.returns-in-Between-clause-after
returns-in-Between-clause-after g c = rw c.in-Between.is c.resolved_between.ensures.after

pub returns-in_ok-resolved_operand-in-IsNull-clause-resolved : goal.returns-in_ok-resolved_operand-in-IsNull-clause-resolved
returns-in_ok-resolved_operand-in-IsNull-clause-resolved g c = rw (c.in-IsNull.is, c.in_ok-resolved_operand-in-IsNull.ensures.resolved) refl

pub returns-in_ok-resolved_operand-in-IsNull-clause-after : goal.returns-in_ok-resolved_operand-in-IsNull-clause-after
returns-in_ok-resolved_operand-in-IsNull-clause-after g c = rw c.in-IsNull.is c.in_ok-resolved_operand-in-IsNull.ensures.after

pub returns-in_ok-resolved_operand-in-In-clause-resolved : goal.returns-in_ok-resolved_operand-in-In-clause-resolved
returns-in_ok-resolved_operand-in-In-clause-resolved g c = rw (c.in-In.is, c.in_ok-resolved_operand-in-In.ensures.resolved) refl

pub returns-in_ok-resolved_operand-in-In-clause-after : goal.returns-in_ok-resolved_operand-in-In-clause-after
returns-in_ok-resolved_operand-in-In-clause-after g c = rw c.in-In.is c.in_ok-resolved_operand-in-In.ensures.after
