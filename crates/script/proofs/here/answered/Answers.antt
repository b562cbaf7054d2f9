use Rattle.std.proofs.Common.{◌∙◌, ◌++◌, ap₂}
use Rattle.script.proofs.HereLemmas.{heads_so}
use Rattle.script.proofs.here.answered.Goals as goal

pub returns : goal.returns
returns g c = λ text heads.
    heads_so c.args.asked.now.opening.items c.args.asked.now.snapshot c.args.asked.now.question c.in_ok-answer.answer.items _ text c.in_ok-answer.ensures (c.in_ok-extend_from_slice-2.ensures.items ∙ ap₂ (λ a b. a ++ b) (c.in_ok-extend_from_slice.ensures.items ∙ ap₂ (λ a b. a ++ b) c.in_ok-text.ensures.items c.as_slice.ensures.value) c.as_slice-2.ensures.value) heads
