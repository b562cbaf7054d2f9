use Rattle.std.proofs.Common.{◌≡◌, take}
use Rattle.groups.specs.Parting.{codes_at}
use Rattle.groups.proofs.renumbering.ranked.Given as goal

abbrev pub invariant-loop-number : goal.invariant-loop-number
invariant-loop-number l = l.all.items ≡ codes_at l.ranks (take l.number-index l.numbers)
