use Rattle.std.proofs.Common.{arith, subst, sym}
use Rattle.report.specs.Watching.{AreShots}
use Rattle.report.proofs.WatchingLemmas.{shots_longer, shots_more}
use Rattle.report.proofs.watching.Watcher.watch_once.Goals as goal

pub invariant_of-self : goal.invariant_of-self
invariant_of-self g c = shots_longer c.look.new.viewer.history c.look.ensures.looks.seen c.self.invariant

pub invariant_of-self-in_err-push : goal.invariant_of-self-in_err-push
invariant_of-self-in_err-push g c =
    subst (AreShots c.look.new.viewer.history c.self.inside.question 0) (sym c.in_err-push.ensures.items) (shots_longer c.look.new.viewer.history c.look.ensures.looks.seen c.self.invariant)

pub invariant_of-self-2 : goal.invariant_of-self-2
invariant_of-self-2 g c =
    subst (AreShots c.look.new.viewer.history c.self.inside.question 0) (sym c.in_ok-push.ensures.items)
    (shots_more c.look.new.viewer.history c.in_ok-shot.shot c.look.ensures.looks.seen c.in_ok-shot.ensures.shot.1 (omega arith) c.in_ok-shot.ensures.shot.0 c.self.invariant)
