use Rattle.std.proofs.Common.{◌++◌, IfSome, subst}
use Rattle.groups.specs.Groups.{kept}
use Rattle.groups.specs.Partials.{Stands}
use Rattle.script.proofs.joining.kept_of_both.Goals as goal

pub returns-in_ok-sets-in-Some : goal.returns-in_ok-sets-in-Some
returns-in_ok-sets-in-Some g c = λ xs ys zs together firsts seconds.
    let plan = c.args.plan.now in
    let stands = subst (λ o. IfSome o (Stands g.H.KeyHash-2.hash_of plan (kept plan.condition xs ++ kept plan.condition ys))) c.in-Some.is (c.in_ok-both.ensures (kept plan.condition xs) (kept plan.condition ys) firsts seconds) in
    c.in_ok-sets-in-Some.ensures plan (kept plan.condition zs) (c.any_order.ensures.stands plan _ _ c.in-Some.both (together.together plan.condition) stands)
