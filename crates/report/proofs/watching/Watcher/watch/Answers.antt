use Rattle.report.proofs.WatchingLemmas.{watched_more, watched_none}
use Rattle.report.proofs.watching.Watcher.watch.Goals as goal

pub loop-init : goal.loop-init
loop-init g c = watched_none c.args.self.now

pub loop-preserved : goal.loop-preserved
loop-preserved g c = watched_more c.args.self.now c.loop.self c.watch_once.new.self c.loop.counter c.loop.invariant c.in_ok-watch_once.ensures
