use Rattle.std.proofs.Common.{◌≡◌, ap, arith, rules, true, []}
use Rattle.std.proofs.lemmas.List.{nil_from_length}
use Rattle.std.specs.Vec.Iter.{into_iter_items}
use Rattle.groups.proofs.JoinLemmas.{fit_all, fit_more}
use Rattle.groups.proofs.joining.fit.Goals as goal
use Rattle.trie.specs.Holding.{lent}

pub loop-group-preserved : goal.loop-group-preserved
loop-group-preserved g c =
    let group = c.in-Some.group in
    let yes : c.fits.result ≡ true = search rules in
    fit_more g.H.KeyHash-2.hash_of c.args.first.now c.args.second.now (lent (into_iter_items c.loop-group.group-iterator)) (lent (into_iter_items c.next.new.self))
    (group.0.now, group.1.now) c.loop-group.invariant (search rules) (rw (← c.get.ensures) (c.fits.ensures yes))

pub returns : goal.returns
returns g c = λ yes.
    let items = into_iter_items c.loop-group.group-iterator in
    let none : items ≡ [] = nil_from_length items (omega (arith, c.loop-group.group-iterator.rest.ok, c.in-None.ensures.steps.0)) in
    fit_all g.H.KeyHash-2.hash_of c.args.first.now c.args.second.now (lent items) c.loop-group.invariant (ap lent none)
