use Rattle.groups.proofs.PoolLemmas.{grows_by_set, set_pushed}
use Rattle.groups.proofs.pool.add_bag.Goals as goal

pub returns-clause-grows : goal.returns-clause-grows
returns-clause-grows g c =
    grows_by_set c.args.pool.now.items c.as_slice-2.result.now c.push.new.self.items c.args.set.now _ c.as_slice-2.ensures.value c.in_ok-set.ensures.items
    c.in_ok-bag.ensures c.in_ok-push.ensures.items

pub returns-clause-there : goal.returns-clause-there
returns-clause-there g c = set_pushed c.args.pool.now.items c.push.new.self.items c.args.set.now _ c.in_ok-set.ensures.items c.in_ok-push.ensures.items
