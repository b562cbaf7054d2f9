use Rattle.std.proofs.Common.{subst, sym}
use Rattle.std.proofs.lemmas.Result.{IfOk-weaker}
use Rattle.groups.specs.Laying.{CanMeet, IsLaid}
use Rattle.groups.proofs.LayingLemmas.{can_meet, stands}
use Rattle.groups.proofs.laying.trie_of.Goals as goal

pub laid-requires-clause-meet : goal.laid-requires-clause-meet
laid-requires-clause-meet g c =
    subst (CanMeet c.args.aggregations.now c.args.set.now) (sym c.groups.ensures.all) (can_meet c.args.aggregations.now c.args.set.now c.args.bag.now c.requires)

pub returns : goal.returns
returns g c = λ rows covers. IfOk-weaker c.laid.result _ _ (λ t is.
    stands c.args.aggregations.now c.args.set.now g.H.KeyHash-2.hash_of rows c.args.bag.now t covers
    (subst (λ l. IsLaid g.H.KeyHash-2.hash_of c.args.aggregations.now c.args.set.now l t) c.groups.ensures.all is))
    c.laid.ensures
