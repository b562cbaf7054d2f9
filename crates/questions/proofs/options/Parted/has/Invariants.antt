use Rattle.std.proofs.Common.{◌≡◌, drop, map}
use Rattle.questions.specs.Options.{seen, has_flag}
use Rattle.questions.proofs.options.Parted.has.Given as goal

abbrev pub invariant-loop-said : goal.invariant-loop-said
invariant-loop-said l = has_flag l.flag (map seen (drop l.said-index l.said-items)) ≡ has_flag l.flag (map seen l.said-items)
