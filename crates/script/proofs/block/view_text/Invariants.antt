use Rattle.std.proofs.Common.{◌≡◌, take}
use Rattle.std.specs.List.{flat_map}
use Rattle.script.specs.Viewers.{view_block}
use Rattle.script.proofs.block.view_text.Given as goal

abbrev pub invariant-loop-shot : goal.invariant-loop-shot
invariant-loop-shot l = l.text.items ≡ flat_map (view_block l.form l.viewer) (take l.shot-index l.shots)
