use Rattle.std.proofs.Common.{◌≡◌, ◌++◌, map}
use Rattle.std.specs.Vec.Iter.{into_iter_items}
use Rattle.report.specs.Watching.{up_to}
use Rattle.report.proofs.watching.ended.Given as goal

abbrev pub invariant-loop-shot : goal.invariant-loop-shot
invariant-loop-shot l = l.all.items ++ map (up_to l.fn.last) (into_iter_items l.shot-iterator) ≡ map (up_to l.fn.last) l.fn.shots.items
