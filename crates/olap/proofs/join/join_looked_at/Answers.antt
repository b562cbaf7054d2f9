use Rattle.std.proofs.Common.{◌∷◌}
use Rattle.std.specs.Io.Buffered.{writer_contents}
use Rattle.olap.specs.Partials.{IsOutputOfJoin, IsOutputOfTold}
use Rattle.olap.proofs.PartialsLemmas.{output_of_joint, written_joint}
use Rattle.olap.proofs.EndingsLemmas.{writes_as}
use Rattle.olap.proofs.join.join_looked_at.Goals as goal

pub returns-in-Some-clause-left : goal.returns-in-Some-clause-left
returns-in-Some-clause-left g c = λ done.
    let wrote = rw c.as_str.ensures at c.write_joint.ensures.written done in
    rw c.in-Some.is
    (written_joint (g.F.Folder.file c.args.folder.now) (g.S.Writable.writes c.args.files.now c.write_joint.new.files) (c.args.job.now.first ∷ c.args.job.now.others.items) _ c.in-Ok.joint
    (rw c.as_slice.ensures.value at c.in-Ok.ensures) wrote)

pub returns-in-None-clause-left : goal.returns-in-None-clause-left
returns-in-None-clause-left g c = λ done.
    rw c.in-None.is
    (writes_as (IsOutputOfTold c.args.job.now.form c.in-Ok.joint) (IsOutputOfJoin (g.F.Folder.file c.args.folder.now) c.args.job.now)
    (writer_contents g.W.Write.contents c.args.out) (writer_contents g.W.Write.contents c.write_output.result.1)
    (output_of_joint (g.F.Folder.file c.args.folder.now) c.args.job.now.form (c.args.job.now.first ∷ c.args.job.now.others.items) c.in-Ok.joint (rw c.as_slice.ensures.value at c.in-Ok.ensures))
    (c.write_output.ensures.written done))
