use Rattle.std.specs.Str.Lines.{lines}
use Rattle.std.specs.Vec.Iter.{into_iter_items}
use Rattle.script.proofs.ProgressLemmas.{last_first}
use Rattle.script.proofs.RetellingLemmas.{Retold}
use Rattle.script.proofs.retelling.blocks_of_told.Given as goal

abbrev pub invariant-loop-line : goal.invariant-loop-line
invariant-loop-line g l = Retold l.manner (last_first l.yielded) l.line-iterator (lines l.script) l.fn.tolds.items (into_iter_items l.left) l.text.items l.walk
