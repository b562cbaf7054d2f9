use Rattle.std.proofs.Common.{arith, refl, ◌∙◌}
use Rattle.groups.proofs.PoolLemmas.{finer_at, grown_counted, grown_finer, stands_for_all, stands_for_next}
use Rattle.groups.proofs.pool_tries.tries_of.Goals as goal

pub trie_by-requires-clause-can : goal.trie_by-requires-clause-can
trie_by-requires-clause-can g c =
    rw c.as_slice-in-loop-set.ensures.value (grown_counted c.args.aggregations.now c.args.sources.items c.in_ok-pool.pool.items c.in_ok-pool.ensures.grows c.requires.can)

pub trie_by-requires-clause-finer : goal.trie_by-requires-clause-finer
trie_by-requires-clause-finer g c =
    rw c.as_slice-in-loop-set.ensures.value
    (finer_at c.in_ok-pool.pool.items c.args.sets.now c.args.sets.now c.loop-set.set-index c.set-item.result c.as_slice.result.now
    (grown_finer c.args.sources.items c.in_ok-pool.pool.items c.args.sets.now c.in_ok-pool.ensures.grows c.requires.finer) refl c.loop-set-test.true c.set-item.is
    (c.as_slice.ensures.value ∙ c.set.view_is))

pub loop-set-preserved : goal.loop-set-preserved
loop-set-preserved g c =
    stands_for_next g.H.KeyHash-2.hash_of c.args.aggregations.now c.in_ok-pool.pool.items c.args.sets.now c.loop-set.set-index c.set-item.result
    c.as_slice.result.now c.loop-set.tries.items c.push.new.self.items c.in_ok-trie.trie c.loop-set-test.true c.set-item.is
    (c.as_slice.ensures.value ∙ c.set.view_is) c.loop-set.invariant (λ rows pooled. c.in_ok-trie.ensures rows (rw c.as_slice-in-loop-set.ensures.value pooled))
    c.in_ok-push.ensures.items

pub returns : goal.returns
returns g c = λ rows pooled.
    stands_for_all g.H.KeyHash-2.hash_of c.args.aggregations.now c.in_ok-pool.pool.items c.args.sets.now c.loop-set.set-index c.loop-set.tries.items (omega arith)
    c.loop-set.invariant rows (c.in_ok-pool.ensures.grows.covers c.args.aggregations.now rows pooled)
