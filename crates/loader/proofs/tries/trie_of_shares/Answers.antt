use Rattle.std.proofs.lemmas.Result.{IfOk-weaker}
use Rattle.loader.proofs.TriesLemmas.{held_shares}
use Rattle.loader.proofs.tries.trie_of_shares.Goals as goal

pub returns-then-workers-gt1-clause-held : goal.returns-then-workers-gt1-clause-held
returns-then-workers-gt1-clause-held g c =
    IfOk-weaker c.side_by_side.result _ _
    (held_shares c.updates_make_a_map.ensures.put g.H.KeyHash.hash_of c.args.shares.shares.items c.in_ok-runs.runs.items c.in_ok-runs.ensures.all)
    c.side_by_side.ensures.held

pub returns-in_ok-one_by_one-clause-held : goal.returns-in_ok-one_by_one-clause-held
returns-in_ok-one_by_one-clause-held g c =
    held_shares c.updates_make_a_map.ensures.put g.H.KeyHash.hash_of c.args.shares.shares.items c.in_ok-runs.runs.items c.in_ok-runs.ensures.all
    c.in_ok-one_by_one.field-0 c.in_ok-one_by_one.ensures
