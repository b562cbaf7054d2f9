-- Two whole tries that are merged.
use Rattle.std.proofs.Common.{◌≡◌, ℕ, ◌+◌, ◌<◌, ◌^◌, Option, List, [], length, refl, ap, ◌∙◌, arith}
use Rattle.std.specs.Option.{option_map}
use Rattle.std.specs.declared.cmp.Ordering.{Ordering}
use Rattle.trie.specs.Digits.{digit_order}
use Rattle.trie.specs.Entries.{entry_at}
use Rattle.trie.specs.Holding.{IsTrie}
use Rattle.trie.specs.Merging.{CanBlend, IsMerged, Meet, Merges}
use Rattle.trie.specs.Nodes.{Node}
use Rattle.trie.specs.Tree.{entries_in, IsSlot}
use Rattle.trie.proofs.FoundLemmas.{value_blended}
use Rattle.trie.proofs.MapsLemmas.{value-entry}

module _ {K V : Type 0} (hash : K → ℕ) (cmp : K → K → Ordering) where
  -- they may be merged
  pub roots_meet : (Asks : V → V → Type 0) (first second : Option (Node K V)) (es fs : List (K × V)) →
      entries_in first ≡ es → entries_in second ≡ fs → IsSlot hash cmp first [] → IsSlot hash cmp second [] →
      length es + length fs < 2 ^ 64 → CanBlend (digit_order hash cmp) Asks es fs →
      Meet hash cmp Asks 0 first second
  roots_meet Asks first second es fs is also placed other room can = record {
    prefix = [];
    deep = refl;
    first_placed = placed;
    second_placed = other;
    room = omega (arith, ap length is, ap length also, room);
    can = λ key s x y fx fy. can.can key x y (rw is at fx) (rw also at fy);
  }

  pub roots_merged : (blend : V → V → V) (first second third : Option (Node K V)) (es fs : List (K × V)) →
      entries_in first ≡ es → entries_in second ≡ fs → IsSlot hash cmp first [] → IsSlot hash cmp second [] →
      Merges hash cmp blend 0 first second third → IsMerged (digit_order hash cmp) blend es fs (entries_in third)
  roots_merged blend first second third es fs is also placed other merges =
      let merged = merges.at [] refl placed other in
      let order = digit_order hash cmp in
      record {
        values = λ key.
            value-entry order (entries_in third) key ∙ ap (λ o. option_map (λ e. e.1) o) (rw (← is, ← also) (merged.entries key tt))
            ∙ value_blended blend (entry_at order es key) (entry_at order fs key)
            ∙ rw (value-entry order es key, value-entry order fs key) refl;
        first = omega (arith, merged.first_in, ap length is);
        most = omega (arith, merged.most, ap length is, ap length also);
      }

  -- what they become is a whole trie, too
  pub merged_root : (blend : V → V → V) (first second third : Option (Node K V)) (es fs : List (K × V)) →
      entries_in first ≡ es → entries_in second ≡ fs → IsSlot hash cmp first [] → IsSlot hash cmp second [] →
      length es + length fs < 2 ^ 64 → Merges hash cmp blend 0 first second third → IsTrie hash cmp third
  merged_root blend first second third es fs is also placed other room merges =
      let merged = merges.at [] refl placed other in
      record { placed = merged.placed; fits = omega (arith, merged.most, ap length is, ap length also, room) }
