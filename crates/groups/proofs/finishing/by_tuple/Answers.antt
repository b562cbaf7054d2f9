use Rattle.std.proofs.Common.{rules, subst, sym}
use Rattle.std.specs.List.Sorted.{IsPermutation, IsSortedByKey}
use Rattle.std.specs.Vec.Iter.{into_iter_items}
use Rattle.std.proofs.lemmas.List.Sorted.{IsPermutation-map, answers_always}
use Rattle.cells.specs.TupleOrder.{tuple_cmp}
use Rattle.groups.proofs.SetTuplesLemmas.{sorted_lent}
use Rattle.groups.proofs.finishing.by_tuple.Goals as goal
use Rattle.trie.specs.Holding.{lent}

pub returns-clause-all : goal.returns-clause-all
returns-clause-all g c =
    let sorted = c.sort_by_key.new.self.items in
    let moved = IsPermutation-map (λ p. (p.0.now, p.1.now)) c.in_ok-all.all.items sorted c.sort_by_key.ensures.permutation in
    subst (λ groups. IsPermutation groups (lent (into_iter_items c.into_iter.result))) c.in_ok-all.ensures
    (subst (λ es. IsPermutation (lent c.in_ok-all.all.items) (lent es)) (sym c.into_iter.ensures.rest) moved)

pub returns-clause-rising : goal.returns-clause-rising
returns-clause-rising g c =
    sorted_lent (into_iter_items c.into_iter.result)
    (subst (λ es. IsSortedByKey (λ e. e.0.now) tuple_cmp es) (sym c.into_iter.ensures.rest)
    (c.in_ok-sort_by_key.ensures.sorted (λ e. e.0) (answers_always _ _ _ (λ f a r q k. search rules))))
