use Rattle.std.proofs.Common.{sym, ◌∙◌}
use Rattle.std.proofs.lemmas.Option.{same_Some}
use Rattle.shards.proofs.document.of_value.Goals as goal

pub returns-in-Ok-Some : goal.returns-in-Ok-Some
returns-in-Ok-Some c = λ it spells. same_Some _ _ (sym c.in-Ok-Some.field-0-is ∙ c.in-Ok-Some.ensures it spells)

pub returns-in-Ok-None : goal.returns-in-Ok-None
returns-in-Ok-None c = λ it spells. let never = sym c.in-Ok-None.field-0-is ∙ c.in-Ok-None.ensures it spells in absurd (cc)
