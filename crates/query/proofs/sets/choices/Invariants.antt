use Rattle.std.proofs.Common.{◌≡◌, map, take}
use Rattle.std.specs.List.{flat_map}
use Rattle.query.specs.Marks.{joined}
use Rattle.query.proofs.sets.choices.Given as goal

abbrev pub invariant-loop-first : goal.invariant-loop-first
invariant-loop-first l = l.sets.items ≡ flat_map (λ f. map (joined f) l.seconds) (take l.first-index l.firsts)
