use Rattle.std.proofs.lemmas.Result.{IfOk-weaker}
use Rattle.loader.proofs.TriesLemmas.{held_shares}
use Rattle.loader.proofs.tries.trie_here.Goals as goal

pub returns : goal.returns
returns g c =
    IfOk-weaker c.one_by_one.result _ _
    (held_shares c.updates_make_a_map.ensures.put g.H.KeyHash.hash_of c.args.shares.shares.items c.in_ok-runs.runs.items c.in_ok-runs.ensures.all)
    c.one_by_one.ensures
