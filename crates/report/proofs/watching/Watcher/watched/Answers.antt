use Rattle.report.proofs.WatchingLemmas.{handed}
use Rattle.report.specs.Watching.{HasWatched}
use Rattle.report.proofs.watching.Watcher.watched.Goals as goal

pub returns : goal.returns
returns g c = handed (HasWatched c.args.self c.args.count) c.watch-made.result c.watch-made.new.self c.handed_on.result c.handed_on.ensures c.watch-made.ensures
