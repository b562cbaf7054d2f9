use Rattle.std.proofs.Common.{◌≡◌, ◌++◌, drop, map}
use Rattle.questions.specs.Options.{names_in, seen}
use Rattle.questions.proofs.options.Parted.names.Given as goal

abbrev pub invariant-loop-said : goal.invariant-loop-said
invariant-loop-said l = map (λ w. w.now) l.names.items ++ names_in (map seen (drop l.said-index l.said-items)) ≡ names_in (map seen l.said-items)
