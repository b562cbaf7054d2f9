-- How two slots of one prefix meet, and what they become.
use Rattle.std.proofs.Common.{◌≡◌, ℕ, ◌+◌, ◌<◌, ◌≤◌, Bool, true, false, Option, Some, None, Vec, List, [], ◌∷◌, ◌++◌, cond, length, set, take, get_or, suc, refl, sym, ap, ◌∙◌, subst, arith, length-append, sum_by, inl, inr}
use Rattle.std.specs.List.{AllByRecursion, flat_map}
use Rattle.std.specs.Option.{option_map}
use Rattle.std.specs.Ordering.{is_eq}
use Rattle.std.specs.declared.alloc.Global.{Global}
use Rattle.std.specs.declared.cmp.Ordering.{Ordering}
use Rattle.std.specs.declared.cmp.Ordering.TheVariants.{Equal}
use Rattle.std.specs.declared.sync.Arc.{Arc}
use Rattle.std.proofs.lemmas.Bool.{cases_lt}
use Rattle.std.proofs.lemmas.Cmp.{alike_right, tied_itself}
use Rattle.std.proofs.lemmas.List.{get_or-set_other, get_or-set_same, length-map}
use Rattle.trie.specs.Digits.{digit, digit_count, digit_order, digits, first_digits, slot_count}
use Rattle.trie.specs.Entries.{entry_at, value_at}
use Rattle.trie.specs.Holding.{AreSlots, node_len, pairs_of, prefix_of}
use Rattle.trie.specs.Merging.{AreFound, blend_entries, blended, BranchesMeet, BucketsMeet, entry_of_both, LeafMeets, Meet, MergeEach, Merges}
use Rattle.trie.specs.Nodes.{Branch, Bucket, Child, Leaf, Node, values}
use Rattle.trie.specs.Tree.{AreChildren, branch_of, entries_in, IsNode, IsSlot, StartsWith}
use Rattle.trie.proofs.BucketsLemmas.{blended_none}
use Rattle.trie.proofs.FoundLemmas.{entry_at-order, found-passes, found_alike}
use Rattle.trie.proofs.DigitsLemmas.{get_or-digits, length-digits, starts_with-at, starts_with-front, starts_with-next}
use Rattle.trie.proofs.EntriesLemmas.{with_pair-longer, with_pair-most}
use Rattle.trie.proofs.ListsLemmas.{all-unmap, flat_map-around}
use Rattle.trie.proofs.MapsLemmas.{digit_total, entry-with_pair, HaveHashes, is_Equal, value-entry}
use Rattle.trie.proofs.NodesLemmas.{branch_holds, node_len-is, total_lens}
use Rattle.trie.proofs.DenseLemmas.{length-slots_of}
use Rattle.trie.specs.Dense.{slots_in}
use Rattle.trie.proofs.OrderLemmas.{order_agrees, value_at-order}
use Rattle.trie.proofs.SlotsLemmas.{child_at, entry_at-below, value_at-below}
use Rattle.trie.proofs.TreeLemmas.{entries-Bucket, IsNode-Bucket}
use Rattle.trie.proofs.VariantsLemmas.{branch_in, bucket_in, leaf_in}

-- a prefix that digits begin with is their beginning
pub starts_is : (prefix ds : List ℕ) → StartsWith prefix ds → prefix ≡ take (length prefix) ds
starts_is [] ds s = refl
starts_is (p ∷ prefix) [] s = absurd s
starts_is (p ∷ prefix) (d ∷ ds) s = let rest = starts_is prefix ds s.1 in rw (s.0, ← rest) refl

starts_length : (prefix ds : List ℕ) → StartsWith prefix ds → length prefix ≤ length ds
starts_length [] ds s = omega arith
starts_length (p ∷ prefix) [] s = absurd s
starts_length (p ∷ prefix) (d ∷ ds) s = let rest = starts_length prefix ds s.1 in omega arith

pub one_slot : {X A : Type 0} (f : X → List A) (xs : List X) (k : ℕ) (d : X) → k < length xs →
    length (f (get_or xs k d)) ≤ length (flat_map f xs)
one_slot f xs k d lt =
    rw (flat_map-around f xs k d lt, length-append, length-append) (omega arith)

-- sums of lengths, slot by slot
more_each : {X A : Type 0} (f : X → List A) (d : X) (xs zs : List X) → length xs ≡ length zs →
    ((k : ℕ) → k < length xs → length (f (get_or xs k d)) ≤ length (f (get_or zs k d))) →
    length (flat_map f xs) ≤ length (flat_map f zs)
more_each f d [] [] e each = omega arith
more_each f d [] (z ∷ zs) e each = absurd (omega arith)
more_each f d (x ∷ xs) [] e each = absurd (omega arith)
more_each f d (x ∷ xs) (z ∷ zs) e each =
    let here : length (f x) ≤ length (f z) = each 0 (omega arith) in
    let rest = more_each f d xs zs (omega arith) (λ k lt. each (suc k) (omega arith)) in
    omega (arith, length-append (f x) (flat_map f xs), length-append (f z) (flat_map f zs))

most_each : {X A : Type 0} (f : X → List A) (d : X) (xs ys zs : List X) → length xs ≡ length zs → length ys ≡ length zs →
    ((k : ℕ) → k < length zs → length (f (get_or zs k d)) ≤ length (f (get_or xs k d)) + length (f (get_or ys k d))) →
    length (flat_map f zs) ≤ length (flat_map f xs) + length (flat_map f ys)
most_each f d xs ys [] e g each = omega arith
most_each f d [] ys (z ∷ zs) e g each = absurd (omega arith)
most_each f d (x ∷ xs) [] (z ∷ zs) e g each = absurd (omega arith)
most_each f d (x ∷ xs) (y ∷ ys) (z ∷ zs) e g each =
    let here : length (f z) ≤ length (f x) + length (f y) = each 0 (omega arith) in
    let rest = most_each f d xs ys zs (omega arith) (omega arith) (λ k lt. each (suc k) (omega arith)) in
    omega (arith, length-append (f x) (flat_map f xs), length-append (f y) (flat_map f ys), length-append (f z) (flat_map f zs))

-- children, slot by slot
pub children_each : {X : Type 0} (P : X → List ℕ → Type 0) (prefix : List ℕ) (i : ℕ) (slots : List (Option X)) →
    ((k : ℕ) → k < length slots → (x : X) → get_or slots k None ≡ Some x → P x (prefix ++ (i + k) ∷ [])) →
    AreChildren P prefix i slots
children_each P prefix i [] each = tt
children_each P prefix i (None ∷ slots) each =
    children_each P prefix (i + 1) slots (λ k lt x is.
    let at : i + suc k ≡ i + 1 + k = omega arith in rw at at (each (suc k) (omega arith) x is))
children_each P prefix i (Some x ∷ slots) each =
    let here : i + 0 ≡ i = omega arith in (
      rw here at (each 0 (omega arith) x refl),
      children_each P prefix (i + 1) slots (λ k lt x is.
          let at : i + suc k ≡ i + 1 + k = omega arith in rw at at (each (suc k) (omega arith) x is)),
    )

tied : {K : Type 0} (hash : K → ℕ) (cmp : K → K → Ordering) (h : HaveHashes hash cmp) (k : K) →
    is_eq (digit_order hash cmp k k) ≡ true
tied hash cmp h k = ap is_eq (tied_itself (digit_total hash cmp h) k)

module _ {K V : Type 0} (hash : K → ℕ) (cmp : K → K → Ordering) (h : HaveHashes hash cmp) where
  module _ (Asks : V → V → Type 0) (blend : V → V → V) (depth : ℕ) (first second : Option (Node K V)) where
    pub alone_first : first ≡ None → Merges hash cmp blend depth first second second
    alone_first is = rw is (record {
      at = λ prefix deep fp sp. record {
        placed = sp;
        entries = λ key s. refl;
        first_in = omega arith;
        most = omega arith;
      };
    })

    -- the prefix of a leaf
    leaf_prefix : (pair : K × V) (prefix : List ℕ) → length prefix ≡ depth → StartsWith prefix (digits (hash pair.0)) →
        prefix ≡ first_digits (hash pair.0) depth
    leaf_prefix pair prefix deep starts = rw (← deep) (starts_is prefix (digits (hash pair.0)) starts)

    module _ (m : Meet hash cmp Asks depth first second) where
      -- the value of an entry that is found, and its key
      value_found : (slot : Option (Node K V)) (q : K) (e : K × V) → Some e ≡ entry_at (digit_order hash cmp) (entries_in slot) q →
          value_at (digit_order hash cmp) (entries_in slot) q ≡ Some e.1
      value_found slot q e found =
          value-entry (digit_order hash cmp) (entries_in slot) q ∙ ap (λ o. option_map (λ d. d.1) o) (sym found)

      like_found : (slot : Option (Node K V)) (q : K) (e : K × V) → Some e ≡ entry_at (digit_order hash cmp) (entries_in slot) q →
          digit_order hash cmp q e.0 ≡ Equal
      like_found slot q e found = is_Equal _ (found-passes (λ d. is_eq (digit_order hash cmp q d.0)) (entries_in slot) e (sym found))

      -- the key of the entry in both is equal to the one that was looked up
      like_both : (q : K) (new : K × V) (x y : Option (K × V)) → x ≡ entry_at (digit_order hash cmp) (entries_in first) q →
          y ≡ entry_at (digit_order hash cmp) (entries_in second) q → Some new ≡ blended (blend_entries blend) x y →
          digit_order hash cmp q new.0 ≡ Equal
      like_both q new None None one other is = absurd (cc)
      like_both q new None (Some f) one other is = let same : new ≡ f = cc in rw same (like_found second q f other)
      like_both q new (Some e) None one other is = let same : new ≡ e = cc in rw same (like_found first q e one)
      like_both q new (Some e) (Some f) one other is =
          let same : new ≡ blend_entries blend e f = cc in rw same (like_found second q f other)

      -- what is so where one of the slots is a leaf
      record IsBeside (pair : K × V) (other : Option (Node K V)) : Type 0 where
        pub starts : (prefix : List ℕ) → IsSlot hash cmp first prefix → IsSlot hash cmp second prefix → StartsWith prefix (digits (hash pair.0))
        pub stands : (prefix : List ℕ) → IsSlot hash cmp first prefix → IsSlot hash cmp second prefix → IsSlot hash cmp other prefix
        pub there : entry_at (digit_order hash cmp) (entries_in first) pair.0 ≡ None →
            entry_at (digit_order hash cmp) (entries_in second) pair.0 ≡ None → ⊥
        pub elsewhere : (q : K) → is_eq (digit_order hash cmp q pair.0) ≡ false →
            entry_at (digit_order hash cmp) (entries_in other) q ≡ entry_of_both hash cmp blend first second q
        pub all : length (entries_in first) + length (entries_in second) ≡ length (entries_in other) + 1
        pub first_in : (n : ℕ) → 0 < n → length (entries_in other) ≤ n → length (entries_in first) ≤ n

      beside_found : (pair : K × V) (other : Option (Node K V)) → IsBeside pair other → (x y : Option (K × V)) →
          x ≡ entry_at (digit_order hash cmp) (entries_in first) pair.0 → y ≡ entry_at (digit_order hash cmp) (entries_in second) pair.0 →
          AreFound Asks x y
      beside_found pair other b None None one two = b.there (sym one) (sym two)
      beside_found pair other b None (Some f) one two = tt
      beside_found pair other b (Some e) None one two = tt
      beside_found pair other b (Some e) (Some f) one two =
          m.can pair.0 (b.starts m.prefix m.first_placed m.second_placed) e.1 f.1 (value_found first pair.0 e one) (value_found second pair.0 f two)

      beside_entries : (pair : K × V) (other : Option (Node K V)) → IsBeside pair other → (new : K × V) →
          Some new ≡ entry_of_both hash cmp blend first second pair.0 → (q : K) (b : Bool) → is_eq (digit_order hash cmp q pair.0) ≡ b →
          cond b (Some new) (entry_at (digit_order hash cmp) (entries_in other) q) ≡ entry_of_both hash cmp blend first second q
      beside_entries pair other beside new new_is q true e =
          let same = is_Equal _ e in
          let total = digit_total hash cmp h in
          rw (
            found_alike (digit_order hash cmp) total q pair.0 same (entries_in first),
            found_alike (digit_order hash cmp) total q pair.0 same (entries_in second),
          ) new_is
      beside_entries pair other beside new new_is q false e = beside.elsewhere q e

      leaf_meets : (pair : K × V) (other : Option (Node K V)) → IsBeside pair other → 0 < length (entries_in first) →
          0 < length (entries_in second) → LeafMeets hash cmp Asks blend depth first second pair other
      leaf_meets pair other b some also =
          let starts = b.starts m.prefix m.first_placed m.second_placed in
          let prefix_is : m.prefix ≡ first_digits (hash pair.0) depth = leaf_prefix pair m.prefix m.deep starts in
          let low : length m.prefix ≤ digit_count = omega (arith, starts_length _ _ starts, length-digits (hash pair.0)) in
          record {
            low = omega (arith, low, m.deep);
            some_first = some;
            some_second = also;
            room = omega (arith, m.room, b.all);
            placed = λ at hashed deep.
                let here : prefix_of at ≡ m.prefix = rw (hashed, deep) (sym prefix_is) in
                rw here (m.first_placed, m.second_placed, b.stands m.prefix m.first_placed m.second_placed);
            found = beside_found pair other b _ _ refl refl;
            alike = λ new new_is.
                let equal = like_both pair.0 new _ _ refl refl new_is in
                h.same_hash pair.0 new.0 (is_Equal _ (sym (order_agrees hash cmp h.same_hash pair.0 new.0) ∙ ap is_eq equal));
            become = λ at hashed deep new new_is n held. record {
              at = λ prefix deep_too fp sp.
                  let order = digit_order hash cmp in
                  let total = digit_total hash cmp h in
                  let longer = with_pair-longer order new.0 new.1 (entries_in other) in
                  let most = with_pair-most order new.0 new.1 (entries_in other) in
                  let here : prefix_of at ≡ first_digits (hash pair.0) depth = rw (hashed, deep) refl in
                  let equal = like_both pair.0 new _ _ refl refl new_is in
                  record {
                    placed = rw (leaf_prefix pair prefix deep_too (b.starts prefix fp sp)) (rw here at held.placed);
                    entries = λ q s.
                        rw held.entries_are (entry-with_pair total (entries_in other) new.0 new.1 q
                        ∙ rw (← alike_right total pair.0 new.0 q equal) (beside_entries pair other b new new_is q (is_eq (order q pair.0)) refl));
                    first_in = b.first_in _ (omega (arith, ap length held.entries_are, most.0)) (omega (arith, ap length held.entries_are, longer));
                    most = omega (arith, ap length held.entries_are, most.1, b.all);
                  };
            };
          }

      pub leaf_second : (pair : K × V) → 0 < length (entries_in first) → second ≡ Some (Leaf pair) →
          LeafMeets hash cmp Asks blend depth first second pair first
      leaf_second pair some is =
          let leaf = leaf_in hash cmp second m.prefix pair is m.second_placed in
          let one : length (entries_in second) ≡ 1 = ap length leaf.entries_are in
          let here : entry_at (digit_order hash cmp) (entries_in second) pair.0 ≡ Some pair = rw (leaf.entries_are, tied hash cmp h pair.0) refl in
          leaf_meets pair first (record {
            starts = λ prefix fp sp. (leaf_in hash cmp second prefix pair is sp).starts;
            stands = λ prefix fp sp. fp;
            there = λ none also. let never = sym also ∙ here in cc;
            elsewhere = λ q e. rw (leaf.entries_are, e) (sym (blended_none (blend_entries blend) (entry_at (digit_order hash cmp) (entries_in first) q)));
            all = omega (arith, one);
            first_in = λ n some le. le;
          }) some (omega (arith, one))

      pub leaf_first : (pair : K × V) → 0 < length (entries_in second) → first ≡ Some (Leaf pair) →
          LeafMeets hash cmp Asks blend depth first second pair second
      leaf_first pair some is =
          let leaf = leaf_in hash cmp first m.prefix pair is m.first_placed in
          let one : length (entries_in first) ≡ 1 = ap length leaf.entries_are in
          let here : entry_at (digit_order hash cmp) (entries_in first) pair.0 ≡ Some pair = rw (leaf.entries_are, tied hash cmp h pair.0) refl in
          leaf_meets pair second (record {
            starts = λ prefix fp sp. (leaf_in hash cmp first prefix pair is fp).starts;
            stands = λ prefix fp sp. sp;
            there = λ none also. let never = sym none ∙ here in cc;
            elsewhere = λ q e. rw (leaf.entries_are, e) refl;
            all = omega (arith, one);
            first_in = λ n some le. omega (arith, one, some);
          }) (omega (arith, one)) some

      -- a key that is found has the prefix of the others
      found_below : (prefix : List ℕ) (es : List (K × V)) (key : K) (x : V) →
          AllByRecursion (λ e. StartsWith prefix (digits (hash e.0))) es → value_at cmp es key ≡ Some x →
          StartsWith prefix (digits (hash key))
      found_below prefix [] key x below found = absurd (cc)
      found_below prefix (e ∷ es) key x below found =
          found_below_step (is_eq (cmp key e.0)) refl found (λ f. found_below prefix es key x below.1 f)
        where
          found_below_step : (b : Bool) → is_eq (cmp key e.0) ≡ b → cond b (Some e.1) (value_at cmp es key) ≡ Some x →
              (value_at cmp es key ≡ Some x → StartsWith prefix (digits (hash key))) → StartsWith prefix (digits (hash key))
          found_below_step true is f rest = rw (h.same_hash key e.0 (is_Equal _ is)) below.0
          found_below_step false is f rest = rest f

      module _ (es fs : Vec (Arc (K × V) Global) Global) (is : first ≡ Some (Bucket es)) (also : second ≡ Some (Bucket fs)) where
        pub buckets_meet : BucketsMeet hash cmp Asks blend depth first second (pairs_of es.items) (pairs_of fs.items)
        buckets_meet =
            let a = bucket_in hash cmp first m.prefix es is m.first_placed in
            let b = bucket_in hash cmp second m.prefix fs also m.second_placed in
            let agree = value_at-order hash cmp h.same_hash in
            record {
              low = omega (arith, a.full, m.deep);
              first_rises = a.rising;
              second_rises = b.rising;
              can = record {
                can = λ key x y fx fy.
                    m.can key (found_below m.prefix (pairs_of es.items) key x a.one_hash fx) x y
                    (rw a.entries_are (agree key (pairs_of es.items) ∙ fx)) (rw b.entries_are (agree key (pairs_of fs.items) ∙ fy));
              };
              some_first = omega (arith, ap length a.entries_are, a.many, length-map es.items (λ p. p.value));
              some_second = omega (arith, ap length b.entries_are, b.many, length-map fs.items (λ p. p.value));
              become = λ slot made. record {
                at = λ prefix deep fp sp.
                    let pairs = made.0 in
                    let both = made.2 in
                    let a = bucket_in hash cmp first prefix es is fp in
                    let b = bucket_in hash cmp second prefix fs also sp in
                    let held = entries-Bucket pairs in
                    rw made.1 (record {
                      placed = subst (λ (F : List ℕ → Type 0). F prefix) (sym (IsNode-Bucket hash cmp pairs)) (
                        a.full,
                        omega (arith, a.many, both.first, length-map pairs.items (λ p. p.value), length-map es.items (λ p. p.value)),
                        both.rising,
                        all-unmap (λ p. p.value) (λ e. StartsWith prefix (digits (hash e.0))) pairs.items
                            (both.below prefix a.one_hash b.one_hash),
                      );
                      entries = λ q s. rw (held, a.entries_are, b.entries_are, entry_at-order hash cmp h q (pairs_of pairs.items), entry_at-order hash cmp h q (pairs_of es.items), entry_at-order hash cmp h q (pairs_of fs.items))
                          (both.entries q);
                      first_in = omega (arith, ap length held, ap length a.entries_are, both.first);
                      most = omega (arith, ap length held, ap length a.entries_are, ap length b.entries_are, both.most);
                    });
              };
            }

      -- the slot of a key
      slot_of_key : (prefix : List ℕ) (slots : List (Option (Node K V))) → AreSlots hash cmp prefix slots →
          (k : ℕ) (key : K) → StartsWith (prefix ++ k ∷ []) (digits (hash key)) →
          record {
            low : length prefix ≤ digit_count;
            are : AreSlots hash cmp (first_digits (hash key) (length prefix)) slots;
            digit_is : k ≡ digit (hash key) (length prefix);
          }
      slot_of_key prefix slots are k key s =
          let front = starts_with-front prefix (k ∷ []) (digits (hash key)) s in
          let prefix_is = starts_is prefix (digits (hash key)) front in
          record {
            low = omega (arith, are.short);
            are = rw prefix_is at are;
            digit_is = sym (starts_with-at prefix k (digits (hash key)) s) ∙ get_or-digits (hash key) (length prefix) are.short;
          }

      -- a value or an entry below a slot is that in the branch
      value_in_slot : (prefix : List ℕ) (slots : List (Option (Node K V))) → AreSlots hash cmp prefix slots →
          (k : ℕ) (key : K) → StartsWith (prefix ++ k ∷ []) (digits (hash key)) →
          value_at (digit_order hash cmp) (entries_in (get_or slots k None)) key ≡ value_at (digit_order hash cmp) (flat_map entries_in slots) key
      value_in_slot prefix slots are k key s =
          let found = slot_of_key prefix slots are k key s in
          value_at-below hash cmp (hash key) (length prefix) found.low slots found.are key refl
          (get_or slots k None) (ap (λ n. get_or slots n None) found.digit_is)

      entry_in_slot : (prefix : List ℕ) (slots : List (Option (Node K V))) → AreSlots hash cmp prefix slots →
          (k : ℕ) (key : K) → StartsWith (prefix ++ k ∷ []) (digits (hash key)) →
          entry_at (digit_order hash cmp) (entries_in (get_or slots k None)) key ≡ entry_at (digit_order hash cmp) (flat_map entries_in slots) key
      entry_in_slot prefix slots are k key s =
          let found = slot_of_key prefix slots are k key s in
          entry_at-below hash cmp (hash key) (length prefix) found.low slots found.are key refl
          (get_or slots k None) (ap (λ n. get_or slots n None) found.digit_is)

      module _ (p q : ℕ) (xs ys : Vec (Child K V) Global) (n o : ℕ) {told more : List (K × V)}
          (is : first ≡ Some (Branch n p xs told)) (also : second ≡ Some (Branch o q ys more)) where
        branches_fit : (zs : List (Option (Node K V))) → length zs ≡ slot_count →
            MergeEach hash cmp Asks blend depth first second slot_count (slots_in p xs.items) (slots_in q ys.items) zs →
            (prefix : List ℕ) → length prefix ≡ depth → IsSlot hash cmp first prefix → IsSlot hash cmp second prefix →
            record {
              children : AreChildren (IsNode hash cmp) prefix 0 zs;
              first_in : length (flat_map entries_in (slots_in p xs.items)) ≤ length (flat_map entries_in zs);
              most : length (flat_map entries_in zs) ≤ length (flat_map entries_in (slots_in p xs.items)) + length (flat_map entries_in (slots_in q ys.items));
            }
        branches_fit zs wide each prefix deep fp sp =
            let a = branch_in hash cmp first prefix n p xs is fp in
            let b = branch_in hash cmp second prefix o q ys also sp in
            let at = λ (k : ℕ) (lt : k < slot_count). (each k lt).at (prefix ++ k ∷ []) (omega (arith, length-append prefix (k ∷ []), deep))
            (child_at hash cmp prefix 0 k k (omega arith) (slots_in p xs.items) a.slots_are.children)
            (child_at hash cmp prefix 0 k k (omega arith) (slots_in q ys.items) b.slots_are.children) in
            record {
              children = children_each (IsNode hash cmp) prefix 0 zs (λ k lt x x_is.
                  let here : 0 + k ≡ k = omega arith in
                  rw here (rw x_is at (at k (rw wide at lt)).placed));
              first_in = more_each entries_in None (slots_in p xs.items) zs (a.slots_are.wide ∙ sym wide)
                  (λ k lt. (at k (rw a.slots_are.wide at lt)).first_in);
              most = most_each entries_in None (slots_in p xs.items) (slots_in q ys.items) zs (a.slots_are.wide ∙ sym wide) (b.slots_are.wide ∙ sym wide)
                  (λ k lt. (at k (rw wide at lt)).most);
            }

        pub branches_meet : BranchesMeet hash cmp Asks blend depth first second (slots_in p xs.items) (slots_in q ys.items)
        branches_meet =
            let a = branch_in hash cmp first m.prefix n p xs is m.first_placed in
            let b = branch_in hash cmp second m.prefix o q ys also m.second_placed in
            let first_len = ap length a.entries_are in
            let second_len = ap length b.entries_are in
            record {
              low = omega (arith, m.deep, a.slots_are.short);
              first_wide = a.slots_are.wide;
              second_wide = b.slots_are.wide;
              children = λ k lt. record {
                prefix = m.prefix ++ k ∷ [];
                deep = omega (arith, length-append m.prefix (k ∷ []), m.deep);
                first_placed = child_at hash cmp m.prefix 0 k k (omega arith) (slots_in p xs.items) a.slots_are.children;
                second_placed = child_at hash cmp m.prefix 0 k k (omega arith) (slots_in q ys.items) b.slots_are.children;
                room =
                    let one = one_slot entries_in (slots_in p xs.items) k None (rw (← a.slots_are.wide) at lt) in
                    let other = one_slot entries_in (slots_in q ys.items) k None (rw (← b.slots_are.wide) at lt) in
                    omega (arith, one, other, m.room, first_len, second_len);
                can = λ key s x y fx fy.
                    m.can key (starts_with-front m.prefix (k ∷ []) (digits (hash key)) s) x y
                    (rw a.entries_are (sym (value_in_slot m.prefix (slots_in p xs.items) a.slots_are k key s) ∙ fx))
                    (rw b.entries_are (sym (value_in_slot m.prefix (slots_in q ys.items) b.slots_are k key s) ∙ fy));
              };
              first_len = first_len;
              second_len = second_len;
              some_first = omega (arith, first_len, a.many);
              some_second = omega (arith, second_len, b.many);
              fits = λ bitmap children dense each.
                  let wide = length-slots_of bitmap (values children) in
                  let fit = branches_fit (slots_in bitmap children) wide each m.prefix m.deep m.first_placed m.second_placed in
                  omega (arith, total_lens hash cmp m.prefix bitmap children dense fit.children, fit.most, m.room, first_len, second_len);
              become = λ bitmap children dense each slot made. record {
                at = λ prefix deep fp sp.
                    let a = branch_in hash cmp first prefix n p xs is fp in
                    let b = branch_in hash cmp second prefix o q ys also sp in
                    let wide = length-slots_of bitmap (values children.items) in
                    let fit = branches_fit (slots_in bitmap children.items) wide each prefix deep fp sp in
                    let total = total_lens hash cmp prefix bitmap children.items dense fit.children in
                    let are : AreSlots hash cmp prefix (slots_in bitmap children.items) = record { short = a.slots_are.short; wide = wide; children = fit.children } in
                    let many : 2 ≤ sum_by node_len (values children.items) = omega (arith, total, fit.first_in, a.many) in
                    let holds = branch_holds hash cmp prefix bitmap children dense are (sum_by node_len (values children.items)) total many
                    (branch_of (sum_by node_len (values children.items)) bitmap children) refl in
                    rw made (record {
                      placed = holds.placed;
                      entries = λ key s.
                          let k = digit (hash key) (length prefix) in
                          let longer : StartsWith (prefix ++ k ∷ []) (digits (hash key)) =
                          starts_with-next prefix k (digits (hash key)) s (omega (arith, a.slots_are.short, length-digits (hash key)))
                          (get_or-digits (hash key) (length prefix) a.slots_are.short) in
                          let child = (each k (omega arith)).at (prefix ++ k ∷ []) (omega (arith, length-append prefix (k ∷ []), deep))
                          (child_at hash cmp prefix 0 k k (omega arith) (slots_in p xs.items) a.slots_are.children)
                          (child_at hash cmp prefix 0 k k (omega arith) (slots_in q ys.items) b.slots_are.children) in
                          rw (
                            holds.entries_are,
                            a.entries_are,
                            b.entries_are,
                            ← entry_in_slot prefix (slots_in bitmap children.items) are k key longer,
                            ← entry_in_slot prefix (slots_in p xs.items) a.slots_are k key longer,
                            ← entry_in_slot prefix (slots_in q ys.items) b.slots_are k key longer,
                          ) (child.entries key longer);
                      first_in = omega (arith, ap length holds.entries_are, ap length a.entries_are, fit.first_in);
                      most = omega (arith, ap length holds.entries_are, ap length a.entries_are, ap length b.entries_are, fit.most);
                    });
              };
            }

      pub bucket_and_branch : (es : Vec (Arc (K × V) Global) Global) (n q : ℕ) (ys : Vec (Child K V) Global) {told : List (K × V)} →
          first ≡ Some (Bucket es) → second ≡ Some (Branch n q ys told) → ⊥
      bucket_and_branch es n q ys is also =
          let a = bucket_in hash cmp first m.prefix es is m.first_placed in
          let b = branch_in hash cmp second m.prefix n q ys also m.second_placed in
          absurd (omega (arith, a.full, b.slots_are.short))

      pub branch_and_bucket : (n p : ℕ) (xs : Vec (Child K V) Global) (fs : Vec (Arc (K × V) Global) Global) {told : List (K × V)} →
          first ≡ Some (Branch n p xs told) → second ≡ Some (Bucket fs) → ⊥
      branch_and_bucket n p xs fs is also =
          let a = branch_in hash cmp first m.prefix n p xs is m.first_placed in
          let b = bucket_in hash cmp second m.prefix fs also m.second_placed in
          absurd (omega (arith, b.full, a.slots_are.short))

      pub some_first : (n : Node K V) → first ≡ Some n → 0 < length (entries_in first)
      some_first n is = rw is (node_len-is hash cmp n m.prefix (rw is at m.first_placed)).1

      pub some_second : (n : Node K V) → second ≡ Some n → 0 < length (entries_in second)
      some_second n is = rw is (node_len-is hash cmp n m.prefix (rw is at m.second_placed)).1

module _ {K V : Type 0} (hash : K → ℕ) (cmp : K → K → Ordering) where
  -- one slot more
  pub each_more : (Asks : V → V → Type 0) (blend : V → V → V) (depth : ℕ) (first second : Option (Node K V)) (n : ℕ)
      (xs ys zs : List (Option (Node K V))) (z : Option (Node K V)) → n < length zs →
      MergeEach hash cmp Asks blend depth first second n xs ys zs →
      Merges hash cmp blend (depth + 1) (get_or xs n None) (get_or ys n None) z →
      MergeEach hash cmp Asks blend depth first second (n + 1) xs ys (set zs n z)
  each_more Asks blend depth first second n xs ys zs z within each here k lt =
      elim (cases_lt k n) [
        | inl before ↦
            let other : k ≡ n → ⊥ = λ (e : k ≡ n). absurd (omega arith) in
            rw (get_or-set_other zs n k z None other) (each k before)
        | inr after ↦
            let last : k ≡ n = omega arith in
            rw (last, get_or-set_same zs n z None within) here
      ]
