use Rattle.std.proofs.Common.{◌≡◌, get_or, map, take}
use Rattle.groups.specs.Parting.{no_part}
use Rattle.groups.proofs.renumbering.parts_at.Given as goal

abbrev pub invariant-loop-number : goal.invariant-loop-number
invariant-loop-number l = l.all.items ≡ map (λ n. get_or l.parts n no_part) (take l.number-index l.numbers)
