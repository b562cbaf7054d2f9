use Rattle.std.proofs.Common.{◌≡◌, map, take}
use Rattle.query.specs.Headings.{heading}
use Rattle.query.proofs.headings.headings.Given as goal

abbrev pub invariant-loop-item : goal.invariant-loop-item
invariant-loop-item l = l.texts.items ≡ map heading (take l.item-index l.items)
