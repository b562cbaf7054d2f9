use Rattle.std.proofs.Common.{arith}
use Rattle.groups.proofs.JoinLemmas.{meets_can, meets_room}
use Rattle.groups.proofs.joining.join_groups.Goals as goal

pub merge-requires-clause-room : goal.merge-requires-clause-room
merge-requires-clause-room g c =
    omega (arith, meets_room g.H.KeyHash-2.hash_of c.args.first.now c.args.second.now c.keys_rise.ensures c.keys_rise-2.ensures c.requires)

pub merge-requires-clause-can : goal.merge-requires-clause-can
merge-requires-clause-can g c = meets_can g.H.KeyHash-2.hash_of c.args.first.now c.args.second.now c.requires
