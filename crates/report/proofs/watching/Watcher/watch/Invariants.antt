use Rattle.report.specs.Watching.{HasWatched}
use Rattle.report.proofs.watching.Watcher.watch.Given as goal

abbrev pub invariant-loop : goal.invariant-loop
invariant-loop g l = HasWatched l.fn.self l.counter l.self
