use Rattle.std.proofs.Common.{None, refl}
use Rattle.std.proofs.lemmas.Slice.Zip.{either_empty_from_Zip}
use Rattle.groups.proofs.FinishLemmas.{finishing_all, finishing_more}
use Rattle.groups.proofs.partial.Partial.finish.Goals as goal

pub loop-set-preserved : goal.loop-set-preserved
loop-set-preserved g c =
    let step = c.in-Some.ensures.steps in
    finishing_more g.H.KeyHash-2.hash_of c.args.plan.now c.args.partial c.loop-set.invariant step.0 step.1 c.add_rows_of_set.new.rows.items c.in_ok-add_rows_of_set.ensures

pub returns : goal.returns
returns g c = λ rows stands.
    finishing_all g.H.KeyHash-2.hash_of c.args.plan.now c.args.partial c.loop-set.invariant
    (either_empty_from_Zip c.loop-set.set-iterator c.next.new.self None refl c.in-None.ensures.steps) rows stands
