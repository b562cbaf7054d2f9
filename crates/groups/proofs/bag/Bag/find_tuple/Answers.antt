use Rattle.std.proofs.Common.{◌<◌, length, rules, sym}
use Rattle.groups.proofs.BagJoinLemmas.{same_tuple_at}
use Rattle.groups.proofs.bag.Bag.find_tuple.Goals as goal

pub returns-then-eq-clause-found : goal.returns-then-eq-clause-found
returns-then-eq-clause-found g c =
    let index = c.in_ok-index.field-0.now in
    let groups = c.self.inside.groups.items in
    let within : index < length groups = search rules in
    same_tuple_at groups c.args.self.now index c.index.result.now c.args.tuple.now c.self.view_is within c.index.ensures (sym c.if-eq.ensures)
