use Rattle.std.proofs.Common.{◌≡◌, ◌+◌, ◌++◌, ◌∙◌, ap, rules}
use Rattle.std.specs.Fmt.{decimal}
use Rattle.std.specs.Prelude.{codes}
use Rattle.questions.proofs.QuestionsLemmas.{numbers_more}
use Rattle.questions.proofs.table_text.push_load.Goals as goal

pub loop-place-preserved : goal.loop-place-preserved
loop-place-preserved c =
    let text : c.as_bytes.result.now ≡ codes " " ++ decimal (c.from.result + 1) = search rules in
    let is : c.from.result + 1 ≡ c.loop-place.place + 1 = search rules in
    numbers_more c.extend_from_slice.new.self.items c.loop-place.script.items c.extend_from_slice-in-loop-place.new.self.items (λ number. codes " " ++ decimal number)
    c.loop-place.place (c.from.result + 1) c.loop-place.invariant is (c.in_ok-extend_from_slice-2.ensures.items ∙ ap (λ b. c.loop-place.script.items ++ b) text)
