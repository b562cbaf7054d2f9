use Rattle.std.proofs.Common.{map, rules}
use Rattle.prepare.specs.Listed.{naming_by}
use Rattle.prepare.proofs.ListedLemmas.{columns_fault, columns_more, columns_none}
use Rattle.prepare.proofs.listed.columns_by.Goals as goal

pub loop-place-init : goal.loop-place-init
loop-place-init c = columns_none (naming_by c.args.form) (map (λ f. f.now) c.args.fields.now) c.new-columns.result.items (search rules)

pub returns-in_default-clause-fault : goal.returns-in_default-clause-fault
returns-in_default-clause-fault c =
    let other = rw c.in_default.is at c.in_ok-column.ensures in
    columns_fault (naming_by c.args.form) c.args.fields.now c.loop-place.place _ c.loop-place-test.true c.loop-place.columns.items c.loop-place.invariant other

pub loop-place-preserved : goal.loop-place-preserved
loop-place-preserved c =
    let made = rw c.in-Some.is at c.in_ok-column.ensures in
    rw c.in_ok-push.ensures.items
    (columns_more (naming_by c.args.form) c.args.fields.now c.loop-place.place _ c.loop-place-test.true c.loop-place.columns.items c.loop-place.invariant c.in-Some.column made)
