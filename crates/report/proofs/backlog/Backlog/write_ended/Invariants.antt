use Rattle.std.proofs.Common.{◌≡◌, ◌≤◌, ℕ, List, length}
use Rattle.report.specs.Waiting.{Awaits, TakesFront}
use Rattle.report.proofs.backlog.Backlog.write_ended.Given as goal

abbrev pub invariant-loop-self : goal.invariant-loop-self
invariant-loop-self g l = record {
  written : (text : List ℕ) → Awaits l.fn.self text → TakesFront (g.O.Out.taken l.fn.out) (g.O.Out.taken l.out) l.self text;
  sound : g.O.Out.faults l.out ≡ g.O.Out.faults l.fn.out;
  fewer : length l.self.reports ≤ length l.fn.self.reports;
}

abbrev pub decreases-loop-self : goal.decreases-loop-self
decreases-loop-self g l = length l.self.reports
