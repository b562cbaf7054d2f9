use Rattle.std.proofs.Common.{[], ap, refl, ◌∙◌}
use Rattle.trie.specs.Entries.{with_pairs}
use Rattle.trie.specs.Holding.{pairs_of}
use Rattle.trie.proofs.EntriesLemmas.{with_pair-sorted}
use Rattle.trie.proofs.PairsLemmas.{pair_laid, pairs_laid}
use Rattle.trie.proofs.build.bucket_of.Goals as goal

pub loop-pair-init : goal.loop-pair-init
loop-pair-init g c = rw c.in_ok-rising.ensures.items (record { rises = tt; laid = refl })

pub placed-requires : goal.placed-requires
placed-requires g c = c.loop-pair.invariant.rises

pub loop-pair-preserved : goal.loop-pair-preserved
loop-pair-preserved g c =
    let pair = c.pair-item.result in
    record {
      rises = rw c.in_ok-rising-2.ensures
          (with_pair-sorted g.K.Ord.cmp pair.value.0 pair.value.1 g.met.K.Ord.total (pairs_of c.loop-pair.rising.items) c.loop-pair.invariant.rises);
      laid = pair_laid g.K.Ord.cmp c.deref-pair-items.result.now c.loop-pair.pair-index pair c.loop-pair-test.true c.pair-item.is
          (pairs_of c.loop-pair.rising.items) (pairs_of c.in_ok-rising-2.rising.items) c.in_ok-rising-2.ensures _ c.loop-pair.invariant.laid;
    }

pub returns : goal.returns
returns g c =
    pairs_laid g.K.Ord.cmp c.deref-pair-items.result.now c.loop-pair.pair-index c.loop-pair-test.false (pairs_of c.loop-pair.rising.items) _
    c.loop-pair.invariant.laid
    ∙ ap (λ pairs. with_pairs g.K.Ord.cmp (pairs_of pairs) []) c.deref-pair-items.ensures.value ∙ c.in_ok-sorted.ensures
