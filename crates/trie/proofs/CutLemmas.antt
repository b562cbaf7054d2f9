-- Pieces of nodes.
use Rattle.std.proofs.Common.{◌≡◌, ℕ, ◌+◌, ◌-◌, ◌<◌, suc, zero, get_or, true, false, Option, Some, None, Vec, List, [], ◌∷◌, ◌++◌, length, refl, sym, ap, ◌∙◌, append_assoc, arith}
use Rattle.std.specs.Prelude.{nat_le, nat_lt}
use Rattle.std.specs.List.{flat_map, range_with_len}
use Rattle.std.specs.declared.cmp.Ordering.{Ordering}
use Rattle.std.proofs.lemmas.Grind.{flat_map-append}
use Rattle.std.proofs.lemmas.List.{append-nil, length-map}
use Rattle.trie.specs.Cuts.{cut, cut_below, is_opened, unless_empty, with_prefix}
use Rattle.trie.specs.Digits.{digit_count, slot_count}
use Rattle.std.specs.Prelude.{◌&&◌}
use Rattle.std.specs.declared.alloc.Global.{Global}
use Rattle.std.specs.declared.sync.Arc.{Arc}
use Rattle.std.proofs.lemmas.Bool.{le-leb}
use Rattle.trie.specs.Dense.{slots_in}
use Rattle.trie.specs.Nodes.{Branch, Bucket, Child, Leaf, Node}
use Rattle.trie.specs.Splitting.{IsCut}
use Rattle.trie.specs.Holding.{AreSlots}
use Rattle.trie.specs.Tree.{entries, entries_in, IsSlot}
use Rattle.trie.proofs.VariantsLemmas.{branch_in, bucket_in, leaf_in}
use Rattle.trie.proofs.SlotsLemmas.{with_prefix-slots}
use Rattle.trie.proofs.ShapeNodesLemmas.{range_more}

alone_list : {X : Type 0} (xs : List X) → 0 < length xs → unless_empty xs ≡ xs ∷ []
alone_list [] some = absurd (omega arith)
alone_list (x ∷ xs) some = refl

module _ {K V : Type 0} (hash : K → ℕ) (cmp : K → K → Ordering) where
  module _ (most small : ℕ) where
    pub cut_none : (n : ℕ) (prefix : List ℕ) → cut_below {V = V} hash most small n prefix [] ≡ []
    unfolding cut_below
    cut_none zero prefix = refl
    cut_none (suc n) prefix = refl

    -- a prefix that is not opened is one piece
    pub cut_closed : (n : ℕ) (prefix : List ℕ) (es : List (K × V)) → 0 < length es →
        is_opened most small (length prefix) (length es) ≡ false → cut_below hash most small n prefix es ≡ es ∷ []
    unfolding cut_below
    cut_closed zero prefix es some closed = alone_list es some
    cut_closed (suc n) prefix es some closed = rw closed (alone_list es some)

    pub cut_whole : (prefix : List ℕ) (es : List (K × V)) → 0 < length es → cut_below hash most small 0 prefix es ≡ es ∷ []
    unfolding cut_below
    cut_whole prefix es some = alone_list es some

    -- one that is opened gives the pieces below each digit
    pub cut_opened : (n : ℕ) (prefix : List ℕ) (es : List (K × V)) → is_opened most small (length prefix) (length es) ≡ true →
        cut_below hash most small (suc n) prefix es
        ≡ flat_map (λ d. cut_below hash most small n (prefix ++ d ∷ []) (with_prefix hash (prefix ++ d ∷ []) es)) (range_with_len 0 slot_count)
    unfolding cut_below
    cut_opened n prefix es opened = rw opened refl

    -- one digit more
    pub cut_more : (n : ℕ) (prefix : List ℕ) (slots : List (Option (Node K V))) → AreSlots hash cmp prefix slots →
        (i : ℕ) → i < slot_count → (old mid new : List (List (K × V))) →
        mid ≡ old ++ flat_map (λ d. cut_below hash most small n (prefix ++ d ∷ []) (with_prefix hash (prefix ++ d ∷ []) (flat_map entries_in slots))) (range_with_len 0 i) →
        new ≡ mid ++ cut_below hash most small n (prefix ++ i ∷ []) (entries_in (get_or slots i None)) →
        new ≡ old ++ flat_map (λ d. cut_below hash most small n (prefix ++ d ∷ []) (with_prefix hash (prefix ++ d ∷ []) (flat_map entries_in slots))) (range_with_len 0 (i + 1))
    cut_more n prefix slots are i lt old mid new done here =
        let next : i + 1 ≡ suc i = omega arith in
        let last : range_with_len 0 (i + 1) ≡ range_with_len 0 i ++ i ∷ [] = ap (range_with_len 0) next ∙ range_more 0 i i (omega arith) in
        let slot = with_prefix-slots hash cmp slots prefix i are lt in
        rw (last, flat_map-append, append-nil, here, done, slot, append_assoc) refl

    -- the pieces of a node, by its variant
    module _ (depth : ℕ) (slot : Option (Node K V)) where
      pub nothing_cut : (old : List (List (K × V))) → slot ≡ None → IsCut hash cmp most small depth slot old old
      nothing_cut old is = rw is (record {
        at = λ prefix deep m.
            rw (cut_none (digit_count - depth) prefix) (sym (append-nil old));
      })

      pub piece_cut : (n : Node K V) → slot ≡ Some n → (old new : List (List (K × V))) → new ≡ old ++ entries n ∷ [] →
          ((prefix : List ℕ) → length prefix ≡ depth → IsSlot hash cmp slot prefix →
          (0 < length (entries n)) × (is_opened most small (length prefix) (length (entries n)) ≡ false)) →
          IsCut hash cmp most small depth slot old new
      piece_cut n is old new made closed = rw is (record {
        at = λ prefix deep m.
            let c = closed prefix deep (rw is m) in
            rw (made, cut_closed (digit_count - depth) prefix (entries n) c.0 c.1) refl;
      })

      pub branch_cut : (len bitmap : ℕ) (children : Vec (Child K V) Global) {told : List (K × V)} → slot ≡ Some (Branch len bitmap children told) →
          (old new : List (List (K × V))) → nat_lt small len && nat_lt depth most ≡ true →
          ((prefix : List ℕ) → length prefix ≡ depth → IsSlot hash cmp slot prefix →
          new ≡ old ++ flat_map (λ d. cut_below hash most small (digit_count - (depth + 1)) (prefix ++ d ∷ [])
          (with_prefix hash (prefix ++ d ∷ []) (flat_map entries_in (slots_in bitmap children.items)))) (range_with_len 0 slot_count)) →
          IsCut hash cmp most small depth slot old new
      branch_cut len bitmap children is old new opened made = record {
        at = λ prefix deep m.
            let b = branch_in hash cmp slot prefix len bitmap children is m in
            let total : length (flat_map entries_in (slots_in bitmap children.items)) ≡ len = sym b.counted in
            let two : nat_le 2 len ≡ true = le-leb 2 len (omega (arith, b.counted, b.many)) in
            let left : digit_count - depth ≡ suc (digit_count - (depth + 1)) = omega (arith, b.slots_are.short, deep) in
            let all : is_opened most small (length prefix) (length (flat_map entries_in (slots_in bitmap children.items))) ≡ true =
            rw (total, deep, two) opened in
            rw (b.entries_are, left, cut_opened (digit_count - (depth + 1)) prefix _ all) (made prefix deep m);
      }

      pub leaf_cut : (pair : K × V) → slot ≡ Some (Leaf pair) → (n : Node K V) → slot ≡ Some n →
          (old new : List (List (K × V))) → new ≡ old ++ entries n ∷ [] → IsCut hash cmp most small depth slot old new
      leaf_cut pair leaf n is old new made =
          piece_cut n is old new made (λ prefix deep m.
          let held : entries n ≡ pair ∷ [] = ap (λ p. entries_in p) (sym is) ∙ (leaf_in hash cmp slot prefix pair leaf m).entries_are in
          rw held (omega arith, refl))

      pub bucket_cut : (pairs : Vec (Arc (K × V) Global) Global) → slot ≡ Some (Bucket pairs) → (n : Node K V) → slot ≡ Some n →
          (old new : List (List (K × V))) → new ≡ old ++ entries n ∷ [] → IsCut hash cmp most small depth slot old new
      bucket_cut pairs bucket n is old new made = record {
        at = λ prefix deep m.
            let b = bucket_in hash cmp slot prefix pairs bucket m in
            let held : entries_in slot ≡ entries n = ap entries_in is in
            let last : digit_count - depth ≡ 0 = omega (arith, b.full, deep) in
            let some : 0 < length (entries n) =
            omega (arith, ap length held, ap length b.entries_are, b.many, length-map pairs.items (λ p. p.value)) in
            rw (held, last, cut_whole prefix (entries n) some) made;
      }

      pub branch_closed : (len bitmap : ℕ) (children : Vec (Child K V) Global) {told : List (K × V)} → slot ≡ Some (Branch len bitmap children told) →
          (n : Node K V) → slot ≡ Some n → (nat_lt small len && nat_lt depth most) ≡ false →
          (old new : List (List (K × V))) → new ≡ old ++ entries n ∷ [] → IsCut hash cmp most small depth slot old new
      branch_closed len bitmap children branch n is closed old new made =
          piece_cut n is old new made (λ prefix deep m.
          let b = branch_in hash cmp slot prefix len bitmap children branch m in
          let held : entries n ≡ flat_map entries_in (slots_in bitmap children.items) = ap entries_in (sym is) ∙ b.entries_are in
          let total : length (entries n) ≡ len = ap length held ∙ sym b.counted in
          let two : nat_le 2 len ≡ true = le-leb 2 len (omega (arith, b.counted, b.many)) in
          (omega (arith, total, b.counted, b.many), rw (total, deep, two) closed))

  -- a whole trie is cut at the prefix of no digits
  pub root_cut : (most small : ℕ) (slot : Option (Node K V)) (held : List (K × V)) → entries_in slot ≡ held →
      IsSlot hash cmp slot [] → (old new : List (List (K × V))) → old ≡ [] → IsCut hash cmp most small 0 slot old new →
      new ≡ cut hash most small held
  root_cut most small slot held is placed old new none made =
      made.at [] refl placed ∙ rw (none, is) refl
