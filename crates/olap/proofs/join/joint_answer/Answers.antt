use Rattle.olap.proofs.PartialsLemmas.{joint_first, joint_next}
use Rattle.std.proofs.Common.{refl}
use Rattle.olap.proofs.join.joint_answer.Goals as goal

pub loop-name-init : goal.loop-name-init
loop-name-init g c = joint_first (g.F.Folder.file c.args.folder.now) c.args.first.now c.in_ok-joint.joint c.in_ok-joint.ensures

pub loop-name-preserved : goal.loop-name-preserved
loop-name-preserved g c =
    joint_next (g.F.Folder.file c.args.folder.now) c.args.first.now c.args.others.now c.loop-name.name-index c.name-item.result c.name-item.result c.loop-name.joint c.in_ok-next.next c.in-Ok.both
    c.loop-name.invariant c.loop-name-test.true c.name-item.is refl c.in_ok-next.ensures (record { told = c.in-Ok.ensures.told; script = c.in-Ok.ensures.script; numbers = c.in-Ok.ensures.numbers })
