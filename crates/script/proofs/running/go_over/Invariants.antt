use Rattle.std.proofs.Common.{◌≡◌}
use Rattle.std.specs.Str.Lines.{lines}
use Rattle.script.specs.Givens.{givens_of}
use Rattle.script.specs.Viewers.{HasAttended, asked_of, turns_of}
use Rattle.script.proofs.ProgressLemmas.{Reached, last_first}
use Rattle.script.proofs.running.go_over.Given as goal

abbrev pub invariant-loop-bytes : goal.invariant-loop-bytes
invariant-loop-bytes g l = record {
  reached : Reached (g.O.Out.taken l.fn.out) (g.O.Out.taken l.out) g.H.KeyHash-1.hash_of (givens_of l.setup) l.setup.on_refusal (asked_of l.setup.viewing) (last_first l.yielded) l.bytes-iterator (lines l.script)
      (turns_of (asked_of l.setup.viewing) l.gallery.stage l.gallery.onlookers) l.desk l.backlog l.number;
  attended : HasAttended l.setup.manner.now (asked_of l.setup.viewing) l.desk l.gallery.stage l.gallery.audience.watches l.gallery.onlookers;
  sound : g.O.Out.faults l.out ≡ g.O.Out.faults l.fn.out;
}
