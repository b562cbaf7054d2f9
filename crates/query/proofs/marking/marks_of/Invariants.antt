use Rattle.std.proofs.Common.{◌≡◌, map, take}
use Rattle.query.specs.Marking.{mark_of}
use Rattle.query.proofs.marking.marks_of.Given as goal

abbrev pub invariant-loop-item : goal.invariant-loop-item
invariant-loop-item l = l.marks.items ≡ map mark_of (take l.item-index l.items)
