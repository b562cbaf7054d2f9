use Rattle.std.proofs.Common.{◌≡◌, drop, map}
use Rattle.questions.specs.Options.{seen, value_in}
use Rattle.questions.proofs.options.Parted.value.Given as goal

abbrev pub invariant-loop-said : goal.invariant-loop-said
invariant-loop-said l = value_in l.option (map seen (drop l.said-index l.said-items)) ≡ value_in l.option (map seen l.said-items)
