use Rattle.std.proofs.Common.{None, refl}
use Rattle.std.proofs.lemmas.Slice.Zip.{either_empty_from_Zip}
use Rattle.groups.proofs.JoinLemmas.{joined_stand, joining_all, joining_more}
use Rattle.groups.proofs.partial.Partial.join_if_room.Goals as goal

pub loop-first-preserved : goal.loop-first-preserved
loop-first-preserved g c =
    let step = c.in-Some.ensures.steps in
    joining_more g.H.KeyHash-2.hash_of c.loop-first.invariant step.0 step.1 c.in-Some-2.both c.push.new.self.items (rw c.in-Some-2.is at c.in_ok-both.ensures) c.in_ok-push.ensures.items

pub returns : goal.returns
returns g c = λ plan xs ys s t.
    joined_stand g.H.KeyHash-2.hash_of plan xs ys c.args.self.now c.args.other.now c.loop-first.tries.items s t
    (joining_all g.H.KeyHash-2.hash_of c.loop-first.invariant
    (either_empty_from_Zip c.loop-first.first-iterator c.next.new.self None refl c.in-None.ensures.steps))
