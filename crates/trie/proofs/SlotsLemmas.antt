-- What the canonical form says of the entries below slots.
use Rattle.std.proofs.Common.{◌≡◌, ℕ, ◌+◌, ◌<◌, ◌≤◌, Bool, false, List, [], ◌∷◌, ◌++◌, length, take, drop, get_or, set, suc, zero, Option, Some, None, Vec, refl, sym, ap, ◌∙◌, arith, length-append}
use Rattle.std.specs.Prelude.{nat_eq}
use Rattle.std.specs.declared.alloc.Global.{Global}
use Rattle.std.specs.declared.sync.Arc.{Arc}
use Rattle.std.specs.List.{AllByRecursion, filter, flat_map, starts_with}
use Rattle.std.specs.Ordering.{is_eq, nat_cmp, ordering_reverse}
use Rattle.std.specs.Cmp.Lexicographic.{slice_cmp}
use Rattle.std.specs.declared.cmp.Ordering.{Ordering}
use Rattle.std.specs.declared.cmp.Ordering.TheVariants.{Less, Greater}
use Rattle.std.proofs.Math.ListN.{length-set}
use Rattle.std.proofs.lemmas.Cmp.{nat_list_cmp_total}
use Rattle.std.proofs.lemmas.List.Elements.{filter-append}
use Rattle.trie.specs.Cuts.{with_prefix}
use Rattle.trie.specs.Digits.{digit, digit_count, digit_order, digits, first_digits, slot_count}
use Rattle.trie.specs.Entries.{entry_at, value_at, with_pair, without_key}
use Rattle.trie.specs.Holding.{AreSlots}
use Rattle.trie.specs.Nodes.{Branch, Bucket, Child, Node, values}
use Rattle.trie.specs.Tree.{AreChildren, StartsWith, entries, entries_in, IsNode, IsSlot}
use Rattle.trie.specs.Dense.{slots_in}
use Rattle.trie.proofs.VariantsLemmas.{branch_in, bucket_in, present_values}
use Rattle.trie.proofs.DenseLemmas.{present_nodes}
use Rattle.trie.proofs.DigitsLemmas.{begins, begins_not, parts_less, prefix_length, starts_below, starts_with-front, take-digits}
use Rattle.trie.proofs.EntriesLemmas.{remove_entry-ahead, remove_entry-behind, remove_entry-least, with_pair-ahead, with_pair-behind}
use Rattle.trie.proofs.FoundLemmas.{find-ahead, find-behind, value-alike}
use Rattle.trie.proofs.ListsLemmas.{all-append, all-each, all-weaken, filter_all, filter_none, flat_map-around, flat_map-set, middle}
use Rattle.trie.proofs.TreeLemmas.{by_nodes}

module _ {K V : Type 0} (order : K → K → Ordering) (key : K) where
  -- the entries below slots: those before slot j, with keys below the key, those in it, and those
  -- after it, with keys above the key
  record AreParts (slots : List (Option (Node K V))) (j : ℕ) : Type 0 where
    pub before : List (K × V)
    pub after : List (K × V)
    pub whole : flat_map entries_in slots ≡ before ++ (entries_in (get_or slots j None) ++ after)
    pub written : (slot : Option (Node K V)) →
        flat_map entries_in (set slots j slot) ≡ before ++ (entries_in slot ++ after)
    pub lower : AllByRecursion (λ e. order key e.0 ≡ Greater) before
    pub higher : AllByRecursion (λ e. order key e.0 ≡ Less) after

  module _ (slots : List (Option (Node K V))) (j : ℕ) (parts : AreParts slots j) where
    not_lower : AllByRecursion (λ e. is_eq (order key e.0) ≡ false) parts.before
    not_lower =
        all-weaken (λ e. order key e.0 ≡ Greater) (λ e. is_eq (order key e.0) ≡ false) (λ e is. ap is_eq is) _
        parts.lower

    not_higher : AllByRecursion (λ e. is_eq (order key e.0) ≡ false) parts.after
    not_higher =
        all-weaken (λ e. order key e.0 ≡ Less) (λ e. is_eq (order key e.0) ≡ false) (λ e is. ap is_eq is) _
        parts.higher

    -- a look-up goes to the key's slot
    entry_at-slots : entry_at order (flat_map entries_in slots) key ≡ entry_at order (entries_in (get_or slots j None)) key
    entry_at-slots =
        rw parts.whole (find-behind (λ e. is_eq (order key e.0)) _ _ not_lower ∙ find-ahead
        (λ e. is_eq (order key e.0)) _ _ not_higher)

    -- a pair goes to the key's slot
    with_pair-slots : (value : V) (slot : Option (Node K V)) →
        entries_in slot ≡ with_pair order key value (entries_in (get_or slots j None)) →
        flat_map entries_in (set slots j slot) ≡ with_pair order key value (flat_map entries_in slots)
    with_pair-slots value slot e =
        parts.written slot ∙ rw (
          e,
          parts.whole,
          with_pair-behind order key value _ _
              parts.lower,
          with_pair-ahead order key value _ _ parts.higher,
        ) refl

    -- a key is taken out of its slot
    without_key-slots : (slot : Option (Node K V)) →
        entries_in slot ≡ without_key order key (entries_in (get_or slots j None)) →
        flat_map entries_in (set slots j slot) ≡ without_key order key (flat_map entries_in slots)
    without_key-slots slot e =
        parts.written slot
        ∙ rw (
          e,
          parts.whole,
          remove_entry-behind (λ k. is_eq (order key k)) _ _ not_lower,
          remove_entry-ahead
              (λ k. is_eq (order key k)) _ _ not_higher,
        ) refl

    -- a key that is not in its slot is nowhere
    without_key-nowhere : without_key order key (entries_in (get_or slots j None)) ≡ entries_in (get_or slots j None) →
        without_key order key (flat_map entries_in slots) ≡ flat_map entries_in slots
    without_key-nowhere e =
        rw (
          parts.whole,
          remove_entry-behind (λ k. is_eq (order key k)) _ _ not_lower,
          remove_entry-ahead
              (λ k. is_eq (order key k)) _ _ not_higher,
          e,
        ) refl

module _ {K V : Type 0} (hash : K → ℕ) (cmp : K → K → Ordering) where
  -- the entry's key has the prefix
  abbrev pub IsBelow : List ℕ → K × V → Type 0
  IsBelow prefix e = StartsWith prefix (digits (hash e.0))

  abbrev AllBelow : Node K V → Type 0
  AllBelow n = (prefix : List ℕ) → IsNode hash cmp n prefix → AllByRecursion (IsBelow prefix) (entries n)

  below_if : (prefix : List ℕ) (i : ℕ) (slots : List (Option (Node K V))) → AreChildren (IsNode hash cmp) prefix i slots →
      AllByRecursion AllBelow (present_nodes slots) → AllByRecursion (IsBelow prefix) (flat_map entries_in slots)
  below_if prefix i [] c each = tt
  below_if prefix i (None ∷ slots) c each = below_if prefix (i + 1) slots c each
  below_if prefix i (Some child ∷ slots) c each =
      all-append (IsBelow prefix) (entries child) _
      (all-weaken (IsBelow (prefix ++ i ∷ [])) (IsBelow prefix) (λ e s. starts_with-front prefix (i ∷ []) _ s) _
      (each.0 (prefix ++ i ∷ []) c.0))
      (below_if prefix (i + 1) slots c.1 each.1)

  -- the keys of a node all have its prefix
  pub keys_below : (n : Node K V) → AllBelow n
  keys_below = by_nodes AllBelow (λ pair prefix m. (m, tt)) of_bucket of_branch
    where
      of_bucket : (pairs : Vec (Arc (K × V) Global) Global) → AllBelow (Bucket pairs)
      of_bucket pairs prefix m =
          let bucket = bucket_in hash cmp (Some (Bucket pairs)) prefix pairs refl m in rw bucket.entries_are bucket.one_hash

      of_branch : (len bitmap : ℕ) (children : Vec (Child K V) Global) (told : List (K × V)) → AllByRecursion AllBelow (values children.items) →
          AllBelow (Branch len bitmap children told)
      of_branch len bitmap children told each prefix m =
          let branch = branch_in hash cmp (Some (Branch len bitmap children told)) prefix len bitmap children refl m in
          let present = present_values bitmap children.items branch.dense in
          rw branch.entries_are (below_if prefix 0 (slots_in bitmap children.items) branch.slots_are.children (rw present each))

  -- the keys in the slots of a branch all have its prefix
  pub slots_below : (prefix : List ℕ) (i : ℕ) (slots : List (Option (Node K V))) → AreChildren (IsNode hash cmp) prefix i slots →
      AllByRecursion (IsBelow prefix) (flat_map entries_in slots)
  slots_below prefix i slots c = below_if prefix i slots c (all-each AllBelow keys_below (present_nodes slots))

  -- and those in one of them have its digit too
  slot_keys : (slot : Option (Node K V)) (prefix : List ℕ) → IsSlot hash cmp slot prefix → AllByRecursion (IsBelow prefix) (entries_in slot)
  slot_keys None prefix m = tt
  slot_keys (Some n) prefix m = keys_below n prefix m

  -- the entry stands below a slot before slot j, or after it
  abbrev IsBefore : List ℕ → ℕ → K × V → Type 0
  IsBefore prefix j e = (i : ℕ) × (i < j) × IsBelow (prefix ++ i ∷ []) e

  abbrev IsAfter : List ℕ → ℕ → K × V → Type 0
  IsAfter prefix j e = (i : ℕ) × (j < i) × IsBelow (prefix ++ i ∷ []) e

  children_before : (prefix : List ℕ) (i j n : ℕ) → n ≡ i + j → (slots : List (Option (Node K V))) →
      AreChildren (IsNode hash cmp) prefix i slots →
      AllByRecursion (IsBefore prefix n) (flat_map entries_in (take j slots))
  children_before prefix i zero n is slots c = tt
  children_before prefix i (suc j) n is [] c = tt
  children_before prefix i (suc j) n is (None ∷ slots) c =
      children_before prefix (i + 1) j n (omega arith) slots c
  children_before prefix i (suc j) n is (Some child ∷ slots) c =
      all-append (IsBefore prefix n) (entries child) _
      (all-weaken (IsBelow (prefix ++ i ∷ [])) (IsBefore prefix n) (λ e s. (i, omega arith, s)) _
      (keys_below child (prefix ++ i ∷ []) c.0))
      (children_before prefix (i + 1) j n (omega arith) slots c.1)

  children_later : (prefix : List ℕ) (i n : ℕ) → n < i → (slots : List (Option (Node K V))) →
      AreChildren (IsNode hash cmp) prefix i slots →
      AllByRecursion (IsAfter prefix n) (flat_map entries_in slots)
  children_later prefix i n lt [] c = tt
  children_later prefix i n lt (None ∷ slots) c = children_later prefix (i + 1) n (omega arith) slots c
  children_later prefix i n lt (Some child ∷ slots) c =
      all-append (IsAfter prefix n) (entries child) _
      (all-weaken (IsBelow (prefix ++ i ∷ [])) (IsAfter prefix n) (λ e s. (i, lt, s)) _
      (keys_below child (prefix ++ i ∷ []) c.0))
      (children_later prefix (i + 1) n (omega arith) slots c.1)

  children_after : (prefix : List ℕ) (i j n : ℕ) → n ≡ i + j → (slots : List (Option (Node K V))) →
      AreChildren (IsNode hash cmp) prefix i slots →
      AllByRecursion (IsAfter prefix n) (flat_map entries_in (drop (suc j) slots))
  children_after prefix i j n is [] c = tt
  children_after prefix i zero n is (None ∷ slots) c = children_later prefix (i + 1) n (omega arith) slots c
  children_after prefix i zero n is (Some child ∷ slots) c =
      children_later prefix (i + 1) n (omega arith) slots c.1
  children_after prefix i (suc j) n is (None ∷ slots) c =
      children_after prefix (i + 1) j n (omega arith) slots c
  children_after prefix i (suc j) n is (Some child ∷ slots) c =
      children_after prefix (i + 1) j n (omega arith) slots c.1

  -- what stands in slot j
  pub child_at : (prefix : List ℕ) (i j n : ℕ) → n ≡ i + j → (slots : List (Option (Node K V))) →
      AreChildren (IsNode hash cmp) prefix i slots →
      IsSlot hash cmp (get_or slots j None) (prefix ++ n ∷ [])
  child_at prefix i j n is [] c = tt
  child_at prefix i zero n is (None ∷ slots) c = tt
  child_at prefix i zero n is (Some child ∷ slots) c = let at : n ≡ i = omega arith in rw at c.0
  child_at prefix i (suc j) n is (None ∷ slots) c = child_at prefix (i + 1) j n (omega arith) slots c
  child_at prefix i (suc j) n is (Some other ∷ slots) c = child_at prefix (i + 1) j n (omega arith) slots c.1

  -- the hash of the entry's key has this digit behind the prefix
  abbrev has_digit : List ℕ → ℕ → K × V → Bool
  has_digit prefix k e = starts_with nat_eq (digits (hash e.0)) (prefix ++ k ∷ [])

  has_lower : (prefix : List ℕ) (k : ℕ) (e : K × V) → IsBefore prefix k e → has_digit prefix k e ≡ false
  has_lower prefix k e (i, less, s) = begins_not prefix i k [] (digits (hash e.0)) s (λ same. absurd (omega arith))

  has_higher : (prefix : List ℕ) (k : ℕ) (e : K × V) → IsAfter prefix k e → has_digit prefix k e ≡ false
  has_higher prefix k e (i, more, s) = begins_not prefix i k [] (digits (hash e.0)) s (λ same. absurd (omega arith))

  -- the entries with a digit behind the prefix are those in its slot
  pub with_prefix-slots : (slots : List (Option (Node K V))) (prefix : List ℕ) (k : ℕ) → AreSlots hash cmp prefix slots → k < slot_count →
      with_prefix hash (prefix ++ k ∷ []) (flat_map entries_in slots) ≡ entries_in (get_or slots k None)
  with_prefix-slots slots prefix k are lt =
      let c = are.children in
      let slot = get_or slots k None in
      let before = flat_map entries_in (take k slots) in
      let after = flat_map entries_in (drop (suc k) slots) in
      ap (with_prefix hash (prefix ++ k ∷ [])) (flat_map-around entries_in slots k None (omega (arith, are.wide, lt)))
      ∙ filter-append (has_digit prefix k) before (entries_in slot ++ after)
      ∙ ap (λ l. filter (has_digit prefix k) before ++ l) (filter-append (has_digit prefix k) (entries_in slot) after)
      ∙ middle _ _ _ (entries_in slot)
      (filter_none (has_digit prefix k) before (all-weaken (IsBefore prefix k) _ (has_lower prefix k) before (children_before prefix 0 k k (omega arith) slots c)))
      (filter_all (has_digit prefix k) (entries_in slot) (all-weaken (IsBelow (prefix ++ k ∷ [])) _
      (λ e s. begins (prefix ++ k ∷ []) (digits (hash e.0)) s) (entries_in slot) (slot_keys slot (prefix ++ k ∷ []) (child_at prefix 0 k k (omega arith) slots c))))
      (filter_none (has_digit prefix k) after (all-weaken (IsAfter prefix k) _ (has_higher prefix k) after (children_after prefix 0 k k (omega arith) slots c)))

  with_head : (prefix : List ℕ) (i n : ℕ) → n ≡ i → (slots : List (Option (Node K V))) →
      AreChildren (IsNode hash cmp) prefix (i + 1) slots →
      (slot : Option (Node K V)) → IsSlot hash cmp slot (prefix ++ n ∷ []) →
      AreChildren (IsNode hash cmp) prefix i (slot ∷ slots)
  with_head prefix i n is slots c None m = c
  with_head prefix i n is slots c (Some child) m = let at : i ≡ n = sym is in (rw at m, c)

  pub children-set : (prefix : List ℕ) (i j n : ℕ) → n ≡ i + j → (slots : List (Option (Node K V))) →
      AreChildren (IsNode hash cmp) prefix i slots →
      (slot : Option (Node K V)) → IsSlot hash cmp slot (prefix ++ n ∷ []) →
      AreChildren (IsNode hash cmp) prefix i (set slots j slot)
  children-set prefix i j n is [] c slot m = tt
  children-set prefix i zero n is (None ∷ slots) c slot m = with_head prefix i n (omega arith) slots c slot m
  children-set prefix i zero n is (Some other ∷ slots) c slot m =
      with_head prefix i n (omega arith) slots c.1 slot m
  children-set prefix i (suc j) n is (None ∷ slots) c slot m =
      children-set prefix (i + 1) j n (omega arith) slots c slot m
  children-set prefix i (suc j) n is (Some other ∷ slots) c slot m =
      (c.0, children-set prefix (i + 1) j n (omega arith) slots c.1 slot m)

  -- a prefix that is not whole has fewer digits
  pub low : (h d : ℕ) → d ≤ digit_count → (slots : List (Option (Node K V))) →
      AreSlots hash cmp (first_digits h d) slots → d < digit_count
  low h d deep slots are = omega (arith, are.short, prefix_length h d deep)

  module _ (h d : ℕ) (lt : d < digit_count) (slots : List (Option (Node K V))) (are : AreSlots hash cmp (first_digits h d) slots) where
    pub slot_below : IsSlot hash cmp (get_or slots (digit h d) None) (first_digits h (d + 1))
    slot_below =
        rw (take-digits h d lt) (child_at (first_digits h d) 0 (digit h d) (digit h d) (omega arith) slots
        are.children)

    -- a slot has no more entries than all slots
    pub slot_fewer : length (entries_in (get_or slots (digit h d) None)) ≤ length (flat_map entries_in slots)
    slot_fewer =
        let within : digit h d < length slots = omega (arith, are.wide) in
        rw (flat_map-around entries_in slots (digit h d) None within, length-append, length-append) (omega arith)

    pub slots-set : (slot : Option (Node K V)) → IsSlot hash cmp slot (first_digits h (d + 1)) →
        AreSlots hash cmp (first_digits h d) (set slots (digit h d) slot)
    slots-set slot m = record {
      short = are.short;
      wide = length-set slots (digit h d) slot ∙ are.wide;
      children =
          children-set (first_digits h d) 0 (digit h d) (digit h d) (omega arith) slots are.children slot
          (rw (take-digits h d lt) at m);
    }

    module _ (key : K) (is : h ≡ hash key) where
      key_after : (e : K × V) → IsBefore (first_digits h d) (digit h d) e → digit_order hash cmp key e.0 ≡ Greater
      key_after e (i, less_than, s) =
          let less : slice_cmp nat_cmp (digits (hash e.0)) (digits h) ≡ Less =
          parts_less _ i (digit h d) _ _ less_than s (starts_below h d lt) in
          let greater : slice_cmp nat_cmp (digits h) (digits (hash e.0)) ≡ Greater =
          nat_list_cmp_total.antisymm (digits h) (digits (hash e.0)) ∙ ap ordering_reverse less in
          rw (← is, greater) refl

      key_before : (e : K × V) → IsAfter (first_digits h d) (digit h d) e → digit_order hash cmp key e.0 ≡ Less
      key_before e (i, less_than, s) =
          let less : slice_cmp nat_cmp (digits h) (digits (hash e.0)) ≡ Less =
          parts_less _ (digit h d) i _ _ less_than (starts_below h d lt) s in
          rw (← is, less) refl

      -- the slots part at the key's digit
      parts : AreParts (digit_order hash cmp) key slots (digit h d)
      parts =
          let prefix = first_digits h d in
          let j = digit h d in
          let within : j < length slots = omega (arith, are.wide) in
          record {
            before = flat_map entries_in (take j slots);
            after = flat_map entries_in (drop (suc j) slots);
            whole = flat_map-around entries_in slots j None within;
            written = λ slot. flat_map-set entries_in slots j None slot within;
            lower =
                all-weaken (IsBefore prefix j) (λ e. digit_order hash cmp key e.0 ≡ Greater) key_after _
                (children_before prefix 0 j j (omega arith) slots are.children);
            higher =
                all-weaken (IsAfter prefix j) (λ e. digit_order hash cmp key e.0 ≡ Less) key_before _
                (children_after prefix 0 j j (omega arith) slots are.children);
          }

  -- the same for what stood in the slot of the key, and what stands there now
  module _ (h d : ℕ) (deep : d ≤ digit_count) (slots : List (Option (Node K V))) (are : AreSlots hash cmp (first_digits h d) slots) (key : K) (is : h ≡ hash key)
      (old : Option (Node K V)) (old_is : old ≡ get_or slots (digit h d) None) where
    apart : AreParts (digit_order hash cmp) key slots (digit h d)
    apart = parts h d (low h d deep slots are) slots are key is

    pub entry_at-below : entry_at (digit_order hash cmp) (entries_in old) key ≡ entry_at (digit_order hash cmp) (flat_map entries_in slots) key
    entry_at-below = rw old_is (sym (entry_at-slots (digit_order hash cmp) key slots (digit h d) apart))

    pub value_at-below : value_at (digit_order hash cmp) (entries_in old) key ≡ value_at (digit_order hash cmp) (flat_map entries_in slots) key
    value_at-below = value-alike (digit_order hash cmp) (entries_in old) (flat_map entries_in slots) key entry_at-below

    pub with_pair-below : (value : V) (slot : Option (Node K V)) →
        entries_in slot ≡ with_pair (digit_order hash cmp) key value (entries_in old) →
        flat_map entries_in (set slots (digit h d) slot) ≡ with_pair (digit_order hash cmp) key value
        (flat_map entries_in slots)
    with_pair-below value slot e =
        with_pair-slots (digit_order hash cmp) key slots (digit h d) apart value slot (rw old_is at e)

    pub without_key-below : (slot : Option (Node K V)) →
        entries_in slot ≡ without_key (digit_order hash cmp) key (entries_in old) →
        flat_map entries_in (set slots (digit h d) slot) ≡ without_key (digit_order hash cmp) key
        (flat_map entries_in slots)
    without_key-below slot e =
        without_key-slots (digit_order hash cmp) key slots (digit h d) apart slot (rw old_is at e)

    pub without_key-missing : without_key (digit_order hash cmp) key (entries_in old) ≡ entries_in old →
        without_key (digit_order hash cmp) key (flat_map entries_in slots) ≡ flat_map entries_in slots
    without_key-missing e =
        without_key-nowhere (digit_order hash cmp) key slots (digit h d) apart (rw old_is at e)

    -- what is left has no more entries than before, and at most one fewer
    pub without_key-bounds : (slot : Option (Node K V)) →
        entries_in slot ≡ without_key (digit_order hash cmp) key (entries_in old) →
        let left : List (K × V) = flat_map entries_in (set slots (digit h d) slot) in
        let before : List (K × V) =
        flat_map entries_in slots in (length left ≤ length before) × (length before ≤ length left + 1)
    without_key-bounds slot e =
        rw (without_key-below slot e)
        (remove_entry-least (λ k. is_eq (digit_order hash cmp key k)) (flat_map entries_in slots))
