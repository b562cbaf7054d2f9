use Rattle.std.proofs.Common.{◌∷◌, take}
use Rattle.olap.specs.Partials.{IsJointOf, OfTexts}
use Rattle.olap.proofs.join.joint_answer.Given as goal

abbrev pub invariant-loop-name : goal.invariant-loop-name
invariant-loop-name g l = OfTexts (g.F.Folder.file l.folder) (l.first ∷ take l.name-index l.others) (λ texts. IsJointOf texts l.joint)
