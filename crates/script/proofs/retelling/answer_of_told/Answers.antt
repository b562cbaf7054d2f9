use Rattle.std.proofs.Common.{◌∙◌, ◌++◌, ap}
use Rattle.script.specs.Spelling.{opening}
use Rattle.script.proofs.RetellingLemmas.{told_answer}
use Rattle.script.proofs.WalksLemmas.{given_so}
use Rattle.script.proofs.retelling.answer_of_told.Goals as goal

pub returns-in-Some : goal.returns-in-Some
returns-in-Some g c = λ rs tells.
    let asked = rw c.in_ok-sets.ensures.0 at c.question.ensures in
    let said = told_answer c.args.manner.now c.args.plan rs c.args.told c.in-Kept.sets c.in_ok-sets.sets c.in_ok-sets.question c.in_ok-answer.field-0 c.in-Some.answer tells c.in-Kept.is c.in_ok-sets.ensures.1 asked c.in_ok-answer.ensures c.in-Some.is in
    given_so c.under_opening.result _ _
    (λ block is. is ∙ ap (λ answer. opening c.args.manner.now c.args.walk.now.number c.args.walk.now.edition ++ answer) (c.as_slice.ensures.value ∙ said))
    c.under_opening.ensures
