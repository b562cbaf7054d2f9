use Rattle.std.proofs.Common.{◌≡◌, ◌<◌, ◌^◌, ◌∙◌, [], ap, length, arith}
use Rattle.std.proofs.lemmas.List.{length-map}
use Rattle.std.proofs.lemmas.List.Sorted.{All-permutation}
use Rattle.trie.specs.Building.{hashed_pairs, pair_in, pairs_in}
use Rattle.trie.specs.Digits.{digit_order}
use Rattle.trie.specs.Entries.{with_pairs}
use Rattle.trie.proofs.BuildLemmas.{bare_pairs, root_entries, root_prefix, root_trie}
use Rattle.trie.proofs.MapsLemmas.{hashes}
use Rattle.trie.proofs.SortLemmas.{sorted_made, sorted_rise}
use Rattle.trie.proofs.trie.Trie.from_pairs.Goals as goal

pub slot_of-requires : goal.slot_of-requires
slot_of-requires g c =
    let before = c.in_ok-with_hashes in
    let after = c.in_ok-sorted in
    let list = c.in_ok-owned.owned in
    let hashed = All-permutation (λ one. one.hash ≡ g.H.KeyHash.hash_of one.pair.0) _ _ after.ensures.same before.ensures.hashed in
    let small = All-permutation (λ one. one.hash < 2 ^ 64) _ _ after.ensures.same before.ensures.small in
    let fits : length list.items < 2 ^ 64 = omega (arith, list.ok.0, list.ok.1, list.small) in
    rw c.as_slice.ensures.value
    (root_prefix g.H.KeyHash.hash_of g.K.Ord.cmp list.items after.sorted.items c.in_ok-owned.ensures hashed (sorted_rise after.sorted.items small after.ensures.sorted) fits)

pub invariant_of-result : goal.invariant_of-result
invariant_of-result g c =
    let list = c.in_ok-owned.owned in
    let long = length-map list.items pair_in in
    let fits : length (pairs_in list.items) < 2 ^ 64 = omega (arith, long, list.ok.0, list.ok.1, list.small) in
    root_trie g.H.KeyHash.hash_of g.K.Ord.cmp _ _ (rw c.as_slice.ensures.value at c.in_ok-root.ensures) fits

pub returns : goal.returns
returns g c =
    let laws = hashes g.met.K.Ord.total g.met.K.Ord.matches_eq g.met.H.KeyHash.respects_eq in
    let before = c.in_ok-with_hashes in
    let after = c.in_ok-sorted in
    let list = c.in_ok-owned.owned in
    let order = digit_order g.H.KeyHash.hash_of g.K.Ord.cmp in
    let hashed = All-permutation (λ one. one.hash ≡ g.H.KeyHash.hash_of one.pair.0) _ _ after.ensures.same before.ensures.hashed in
    let long : length after.sorted.items ≡ length before.field-0.items = omega (arith, after.ensures.long, after.sorted.ok.0, before.field-0.ok.0) in
    let same : pairs_in list.items ≡ hashed_pairs after.sorted.items =
    bare_pairs g.H.KeyHash.hash_of g.K.Ord.cmp list.items ∙ ap hashed_pairs c.in_ok-owned.ensures in
    record {
      map =
          root_entries g.H.KeyHash.hash_of g.K.Ord.cmp _ _ (rw c.as_slice.ensures.value at c.in_ok-root.ensures)
          ∙ ap (λ pairs. with_pairs order pairs []) same
          ∙ sorted_made g.H.KeyHash.hash_of g.K.Ord.cmp laws before.field-0.items after.sorted.items before.ensures.hashed hashed after.ensures.stable long
          ∙ ap (λ pairs. with_pairs order pairs []) before.ensures.pairs;
    }
