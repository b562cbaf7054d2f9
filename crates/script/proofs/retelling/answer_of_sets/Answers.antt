use Rattle.std.proofs.Common.{MatchOption, subst}
use Rattle.groups.specs.Groups.{kept}
use Rattle.groups.specs.Partials.{Stands}
use Rattle.script.proofs.retelling.answer_of_sets.Goals as goal

pub returns-in_ok-answer-in-Some : goal.returns-in_ok-answer-in-Some
returns-in_ok-answer-in-Some g c = λ rs tells.
    let plan = c.args.question.now.plan in
    c.in_ok-answer-in-Some.ensures rs
    (subst (λ o. MatchOption o ⊥ (Stands g.H.KeyHash-2.hash_of plan (kept plan.condition rs))) c.in-Some.is (c.in_ok-partial.ensures (kept plan.condition rs) tells))
