use Rattle.std.proofs.Common.{MatchOption, subst}
use Rattle.groups.specs.Partials.{Stands}
use Rattle.script.proofs.joining.partial_of_both.Goals as goal

pub returns : goal.returns
returns g c = λ xs ys firsts seconds.
    let plan = c.args.plan.now in
    let hash = g.H.KeyHash-2.hash_of in
    c.join_if_room.ensures plan xs ys
    (subst (λ o. MatchOption o ⊥ (Stands hash plan xs)) c.in-Some.is (c.in_ok-first.ensures xs firsts))
    (subst (λ o. MatchOption o ⊥ (Stands hash plan ys)) c.in-Some-2.is (c.in_ok-second.ensures ys seconds))
