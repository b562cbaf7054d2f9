use Rattle.groups.proofs.SourcesLemmas.{adds_source}
use Rattle.groups.proofs.sources.add_source.Goals as goal

pub returns : goal.returns
returns g c = adds_source c.args.set.now c.args.sources.now.items c.push.new.self.items _ c.in_ok-set.ensures.items c.new-bag.ensures c.in_ok-push.ensures.items
