use Rattle.std.proofs.lemmas.Result.{IfOk-weaker}
use Rattle.std.specs.Vec.Iter.{into_iter_items}
use Rattle.groups.specs.Told.{AreTold, TellsSet}
use Rattle.groups.proofs.ToldLemmas.{set_told}
use Rattle.groups.proofs.told.set_groups.Goals as goal
use Rattle.trie.specs.Holding.{lent}

pub returns : goal.returns
returns g c = λ aggregations set rows stands.
    let rising = lent (into_iter_items c.in_ok-rising.rising) in
    IfOk-weaker c.told_groups.result (AreTold rising) (TellsSet aggregations set rows)
    (λ told are. set_told g.H.KeyHash-2.hash_of aggregations set rows c.args.groups.now rising told c.keys_rise.ensures stands c.in_ok-rising.ensures.all c.in_ok-rising.ensures.rising are)
    c.told_groups.ensures
