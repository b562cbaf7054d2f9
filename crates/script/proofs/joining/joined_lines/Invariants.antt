use Rattle.std.specs.Str.Lines.{lines}
use Rattle.std.specs.Vec.Iter.{into_iter_items}
use Rattle.script.proofs.JoiningLemmas.{Joined}
use Rattle.script.proofs.ProgressLemmas.{last_first}
use Rattle.script.proofs.joining.joined_lines.Given as goal

abbrev pub invariant-loop-line : goal.invariant-loop-line
invariant-loop-line g l = Joined (last_first l.yielded) l.line-iterator (lines l.script) l.fn.first.items l.fn.second.items (into_iter_items l.firsts) (into_iter_items l.seconds) l.both.items l.walk
