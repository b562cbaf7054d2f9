use Rattle.std.specs.Str.Lines.{lines}
use Rattle.script.proofs.OwnLemmas.{NoPutYet}
use Rattle.script.proofs.ProgressLemmas.{last_first}
use Rattle.script.proofs.own.first_put.Given as goal

abbrev pub invariant-loop-line : goal.invariant-loop-line
invariant-loop-line l = NoPutYet (last_first l.yielded) l.line-iterator (lines l.script) l.walk
