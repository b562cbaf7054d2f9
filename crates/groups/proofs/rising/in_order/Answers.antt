use Rattle.std.proofs.Common.{rules, subst}
use Rattle.std.specs.List.Sorted.{IsPermutation}
use Rattle.std.proofs.lemmas.List.Sorted.{IsPermutation-map, answers_always}
use Rattle.groups.proofs.SetTuplesLemmas.{sorted_lent}
use Rattle.groups.proofs.rising.in_order.Goals as goal
use Rattle.trie.specs.Holding.{lent}

pub returns-clause-all : goal.returns-clause-all
returns-clause-all g c =
    let sorted = c.sort_by_cached_key.new.self.items in
    subst (λ groups. IsPermutation groups (lent sorted)) c.in_ok-all.ensures (IsPermutation-map (λ p. (p.0.now, p.1.now)) c.in_ok-all.all.items sorted c.sort_by_cached_key.ensures.permutation)

pub returns-clause-sorted : goal.returns-clause-sorted
returns-clause-sorted g c =
    sorted_lent c.sort_by_cached_key.new.self.items
    (c.in_ok-sort_by_cached_key.ensures.sorted (λ e. e.0.now) (answers_always _ _ _ (λ f a r q k. search rules)))
