-- The nodes that are made of a list of pairs.
use Rattle.std.proofs.Common.{◌≡◌, ◌==◌, ℕ, ◌+◌, ◌-◌, ◌^◌, ◌<◌, ◌≤◌, Bool, true, false, cond, Option, Some, None, Vec, List, [], ◌∷◌, ◌++◌, length, map, get_or, zero, suc, refl, sym, ap, ◌∙◌, subst, arith, length-append, sum_by}
use Rattle.std.specs.Prelude.{◌&&◌, slice_get}
use Rattle.std.specs.List.{AllByRecursion, flat_map, fold, list_all}
use Rattle.std.specs.Ordering.{is_eq}
use Rattle.std.specs.declared.alloc.Global.{Global}
use Rattle.std.specs.declared.cmp.Ordering.{Ordering}
use Rattle.std.specs.declared.cmp.Ordering.TheVariants.{Equal}
use Rattle.std.specs.declared.sync.Arc.{Arc}
use Rattle.std.proofs.lemmas.Bool.{and_from, eq-eqb, eqb-true}
use Rattle.std.proofs.lemmas.Cmp.{alike_right, tied_itself}
use Rattle.std.proofs.lemmas.List.{get_or-map, length-map}
use Rattle.std.proofs.lemmas.List.Elements.{All-from_recursion, All-head, All-tail}
use Rattle.std.proofs.lemmas.List.Kept.{IsNonDecreasingBy-filter}
use Rattle.std.proofs.lemmas.List.Sums.{count_by-le-length, length-filter}
use Rattle.trie.specs.Building.{AreBelow, AreHashed, AreMadeOf, HaveOnePrefix, HaveTheirHashes, IsMadeOf, OwnedPair, Rise, bare, hashed_pairs, is_like, pair_in, pairs_in, with_digit}
use Rattle.trie.specs.Dense.{IsDense, slots_in}
use Rattle.trie.specs.Digits.{digit, digit_count, digit_order, digits, first_digits, first_number, slot_count}
use Rattle.trie.specs.Entries.{entry_at, with_pair, with_pairs}
use Rattle.trie.specs.Holding.{AreSlots, Holds, IsTrie, node_len, pairs_of}
use Rattle.trie.specs.Nodes.{Bucket, Child, Leaf, Node, values}
use Rattle.trie.specs.Tree.{branch_of, entries_in, IsNode, StartsWith}
use Rattle.trie.specs.declared.build.Hashed.{Hashed}
use Rattle.trie.proofs.DenseLemmas.{length-slots_of}
use Rattle.trie.proofs.DigitsLemmas.{get_or-digits, length-digits, starts_with-next}
use Rattle.trie.proofs.EntriesLemmas.{with_pair-all}
use Rattle.trie.proofs.ListsLemmas.{all-filter, all-unmap, all-weaken}
use Rattle.trie.proofs.MapRisingLemmas.{slots_rise}
use Rattle.trie.proofs.MapsLemmas.{digit_total, HaveHashes, is_Equal}
use Rattle.trie.proofs.MeetLemmas.{children_each, starts_is}
use Rattle.trie.proofs.NodesLemmas.{branch_holds, total_lens}
use Rattle.trie.proofs.OrderLemmas.{order_agrees, with_pair-order}
use Rattle.trie.proofs.PairsLemmas.{alike_pairs, found_kept, last_stands, same_by_entries, with_pairs-all, with_pairs-most, with_pairs-some, with_pairs-sorted}
use Rattle.trie.proofs.SlotsLemmas.{entry_at-below, slots_below}
use Rattle.trie.proofs.PutLemmas.{leaf_holds}
use Rattle.trie.proofs.TreeLemmas.{entries-Bucket, IsNode-Bucket}

module _ {K V : Type 0} (hash : K → ℕ) where
  one_below : (prefix : List ℕ) (d : ℕ) (one : OwnedPair K V) (part : List (OwnedPair K V)) (b : Bool) → (digit one.hash (length prefix) == d) ≡ b →
      length prefix < digit_count → StartsWith prefix (digits (hash (pair_in one).0)) → one.hash ≡ hash (pair_in one).0 →
      AreBelow hash (prefix ++ d ∷ []) (pairs_in part) → AreBelow hash (prefix ++ d ∷ []) (pairs_in (cond b (one ∷ part) part))
  one_below prefix d one part true is low starts hashed rest =
      let key = (pair_in one).0 in
      let here : digit (hash key) (length prefix) ≡ d = rw (← hashed) (eqb-true _ _ is) in (
        starts_with-next prefix d (digits (hash key)) starts (omega (arith, low, length-digits (hash key)))
            (get_or-digits (hash key) (length prefix) low ∙ here),
        rest,
      )
  one_below prefix d one part false is low starts hashed rest = rest

  -- the pairs with a digit are below the prefix with it
  below_part : (prefix : List ℕ) (d : ℕ) (list : List (OwnedPair K V)) → length prefix < digit_count → AreBelow hash prefix (pairs_in list) →
      AreHashed hash list → AreBelow hash (prefix ++ d ∷ []) (pairs_in (with_digit (length prefix) d list))
  below_part prefix d [] low below hashed = tt
  below_part prefix d (one ∷ list) low below hashed =
      one_below prefix d one (with_digit (length prefix) d list) (digit one.hash (length prefix) == d) refl low below.0 hashed.0
      (below_part prefix d list low below.1 hashed.1)

  -- a part of pairs of one prefix
  pub part_below : (depth d : ℕ) (list part : List (OwnedPair K V)) → HaveOnePrefix hash depth list → depth < digit_count →
      part ≡ with_digit depth d list → HaveOnePrefix hash (depth + 1) part
  part_below depth d list part have low is = rw is (record {
    prefix = have.prefix ++ d ∷ [];
    deep = omega (arith, length-append have.prefix (d ∷ []), have.deep);
    low = omega arith;
    below = rw have.deep at (below_part have.prefix d list (rw have.deep low) have.below have.hashed);
    hashed = all-filter (λ one. digit one.hash depth == d) (λ one. one.hash ≡ hash (pair_in one).0) list have.hashed;
    rise = λ n within. IsNonDecreasingBy-filter (λ one. first_number one.hash n) (λ one. digit one.hash depth == d) list (have.rise n within);
    fits = omega (arith, length-filter (λ one. digit one.hash depth == d) list, count_by-le-length (λ one. digit one.hash depth == d) list, have.fits);
  })

both_true : (a b : Bool) → (a && b) ≡ true → (a ≡ true) × (b ≡ true)
both_true true b e = (refl, e)
both_true false b e = absurd (cc)

module _ {K V : Type 0} (hash : K → ℕ) (cmp : K → K → Ordering) (h : HaveHashes hash cmp) where
  -- a key is found among the pairs of its digit as among all
  found_part : (depth d : ℕ) (q : K) → digit (hash q) depth ≡ d → (list : List (OwnedPair K V)) → AreHashed hash list →
      (es fs : List (K × V)) → entry_at (digit_order hash cmp) es q ≡ entry_at (digit_order hash cmp) fs q →
      entry_at (digit_order hash cmp) (with_pairs (digit_order hash cmp) (pairs_in (with_digit depth d list)) es) q
      ≡ entry_at (digit_order hash cmp) (with_pairs (digit_order hash cmp) (pairs_in list) fs) q
  found_part depth d q here list hashed =
      found_kept pair_in (digit_order hash cmp) (digit_total hash cmp h) (λ one. digit one.hash depth == d) q (λ one. one.hash ≡ hash (pair_in one).0)
      (λ one is same.
      let equal = h.same_hash q (pair_in one).0 (is_Equal _ (sym (order_agrees hash cmp h.same_hash q (pair_in one).0) ∙ same)) in
      eq-eqb _ d (ap (λ n. digit n depth) (is ∙ sym equal) ∙ here))
      list (All-from_recursion (λ one. one.hash ≡ hash (pair_in one).0) list hashed)

  -- a branch of which each slot has the pairs with its digit
  module _ (depth : ℕ) (list : List (OwnedPair K V)) (hashed : AreHashed hash list) (low : depth < digit_count)
      (slots : List (Option (Node K V))) (wide : length slots ≡ slot_count) (each : AreMadeOf hash cmp depth list slots)
      (prefix : List ℕ) (deep : length prefix ≡ depth) (below : AreBelow hash prefix (pairs_in list)) where
    child : (k : ℕ) → k < slot_count →
        Holds hash cmp (prefix ++ k ∷ []) (with_pairs (digit_order hash cmp) (pairs_in (with_digit depth k list)) []) (get_or slots k None)
    child k lt =
        (each k lt).at (prefix ++ k ∷ []) (omega (arith, length-append prefix (k ∷ []), deep))
        (rw deep at (below_part hash prefix k list (rw deep low) below hashed))

    pub made_slots : AreSlots hash cmp prefix slots
    made_slots = record {
      short = omega (arith, deep, low);
      wide = wide;
      children = children_each (IsNode hash cmp) prefix 0 slots (λ k lt x x_is.
          let here : 0 + k ≡ k = omega arith in
          rw here (rw x_is at (child k (rw wide at lt)).placed));
    }

    alike : (q : K) → StartsWith prefix (digits (hash q)) →
        entry_at (digit_order hash cmp) (flat_map entries_in slots) q
        ≡ entry_at (digit_order hash cmp) (with_pairs (digit_order hash cmp) (pairs_in list) []) q
    alike q starts =
        let k = digit (hash q) depth in
        let prefix_is : prefix ≡ first_digits (hash q) depth = rw (← deep) (starts_is prefix (digits (hash q)) starts) in
        sym (entry_at-below hash cmp (hash q) depth (omega arith) slots (rw prefix_is at made_slots) q refl (get_or slots k None) refl)
        ∙ ap (λ es. entry_at (digit_order hash cmp) es q) (child k (omega arith)).entries_are
        ∙ found_part depth k q refl list hashed [] [] refl

    pub made_whole : flat_map entries_in slots ≡ with_pairs (digit_order hash cmp) (pairs_in list) []
    made_whole =
        let total = digit_total hash cmp h in
        same_by_entries (digit_order hash cmp) total (λ k. StartsWith prefix (digits (hash k))) _ _
        (slots_rise hash cmp prefix 0 slots made_slots.children)
        (with_pairs-sorted (digit_order hash cmp) total (pairs_in list) [] tt)
        (slots_below hash cmp prefix 0 slots made_slots.children)
        (with_pairs-all (digit_order hash cmp) (λ e. StartsWith prefix (digits (hash e.0))) (pairs_in list) [] below tt)
        alike

  -- the number of entries of such a branch can be held
  pub branch_fits : (depth : ℕ) (list : List (OwnedPair K V)) → HaveOnePrefix hash depth list → depth < digit_count →
      (bitmap : ℕ) (children : List (Child K V)) → IsDense bitmap (length children) →
      AreMadeOf hash cmp depth list (slots_in bitmap children) → sum_by node_len (values children) < 2 ^ 64
  branch_fits depth list have low bitmap children dense each =
      let wide = length-slots_of bitmap (values children) in
      let are = made_slots depth list have.hashed low (slots_in bitmap children) wide each have.prefix have.deep have.below in
      let whole = made_whole depth list have.hashed low (slots_in bitmap children) wide each have.prefix have.deep have.below in
      let most = with_pairs-most (digit_order hash cmp) (pairs_in list) [] in
      omega (arith, total_lens hash cmp have.prefix bitmap children dense are.children, ap length whole, most, length-map list pair_in, have.fits)

  pub branch_made : (depth : ℕ) (list : List (OwnedPair K V)) → AreHashed hash list → depth < digit_count →
      2 ≤ length (with_pairs (digit_order hash cmp) (pairs_in list) []) →
      (bitmap : ℕ) (children : Vec (Child K V) Global) → IsDense bitmap (length children.items) →
      AreMadeOf hash cmp depth list (slots_in bitmap children.items) → (slot : Option (Node K V)) →
      slot ≡ Some (branch_of (sum_by node_len (values children.items)) bitmap children) → IsMadeOf hash cmp depth (pairs_in list) slot
  branch_made depth list hashed low many bitmap children dense each slot is = rw is (record {
    at = λ prefix deep below.
        let slots = slots_in bitmap children.items in
        let wide = length-slots_of bitmap (values children.items) in
        let are = made_slots depth list hashed low slots wide each prefix deep below in
        let whole = made_whole depth list hashed low slots wide each prefix deep below in
        let total = total_lens hash cmp prefix bitmap children.items dense are.children in
        rw whole at (branch_holds hash cmp prefix bitmap children dense are _ total (omega (arith, total, ap length whole, many)) _ refl);
  })

  -- pairs of one whole hash are in the keys' own order
  whole_hash_order : (prefix : List ℕ) → length prefix ≡ digit_count → (ps es : List (K × V)) → AreBelow hash prefix ps →
      AreBelow hash prefix es → with_pairs (digit_order hash cmp) ps es ≡ with_pairs cmp ps es
  whole_hash_order prefix full [] es below also = refl
  whole_hash_order prefix full (p ∷ ps) es below also =
      let prefix_is : prefix ≡ first_digits (hash p.0) digit_count = rw (← full) (starts_is prefix (digits (hash p.0)) below.0) in
      let here = with_pair-order hash cmp p.0 p.1 (hash p.0) refl es (rw prefix_is at also) in
      rw here (whole_hash_order prefix full ps (with_pair cmp p.0 p.1 es) below.1
      (with_pair-all cmp p.0 p.1 (λ e. StartsWith prefix (digits (hash e.0))) below.0 es also))

  pub bucket_made : (depth : ℕ) → depth ≡ digit_count → (ps : List (K × V)) → 2 ≤ length (with_pairs (digit_order hash cmp) ps []) →
      (pairs : Vec (Arc (K × V) Global) Global) → pairs_of pairs.items ≡ with_pairs cmp ps [] → (slot : Option (Node K V)) →
      slot ≡ Some (Bucket pairs) → IsMadeOf hash cmp depth ps slot
  bucket_made depth whole ps many pairs are slot is = rw is (record {
    at = λ prefix deep below.
        let full : length prefix ≡ digit_count = deep ∙ whole in
        let agree = whole_hash_order prefix full ps [] below tt in
        let P : K × V → Type 0 = λ e. StartsWith prefix (digits (hash e.0)) in
        record {
          placed = subst (λ (F : List ℕ → Type 0). F prefix) (sym (IsNode-Bucket hash cmp pairs)) (
            full,
            omega (arith, many, ap length agree, ap length are, length-map pairs.items (λ p. p.value)),
            rw are (with_pairs-sorted cmp h.total ps [] tt),
            all-unmap (λ p. p.value) P pairs.items (rw are (with_pairs-all cmp P ps [] below tt)),
          );
          entries_are = entries-Bucket pairs ∙ are ∙ sym agree;
        };
  })

  -- the last of a list
  last_of : (P : K × V → Type 0) (list : List (OwnedPair K V)) (i : ℕ) (last : OwnedPair K V) → Some last ≡ slice_get list i →
      AllByRecursion P (pairs_in list) → P (pair_in last)
  last_of P [] i last is all = absurd (cc)
  last_of P (one ∷ list) zero last is all =
      let same : last ≡ one = cc in rw same all.0
  last_of P (one ∷ list) (suc i) last is all = last_of P list i last is all.1

  last_hash : (list : List (OwnedPair K V)) (i : ℕ) (last : OwnedPair K V) → Some last ≡ slice_get list i →
      AreHashed hash list → last.hash ≡ hash (pair_in last).0
  last_hash [] i last is all = absurd (cc)
  last_hash (one ∷ list) zero last is all =
      let same : last ≡ one = cc in rw same all.0
  last_hash (one ∷ list) (suc i) last is all = last_hash list i last is all.1

  last_folded : (one : OwnedPair K V) (list : List (OwnedPair K V)) (last : OwnedPair K V) → Some last ≡ slice_get (one ∷ list) (length list) →
      fold (λ _ p. p) (pair_in one) (pairs_in list) ≡ pair_in last
  last_folded one [] last is = let same : last ≡ one = cc in rw same refl
  last_folded one (next ∷ list) last is = last_folded next list last is

  -- all pairs have the key of one
  abbrev HaveKey : OwnedPair K V → List (OwnedPair K V) → Type 0
  HaveKey last list = AllByRecursion (λ p. digit_order hash cmp p.0 (pair_in last).0 ≡ Equal) (pairs_in list)

  have_key : (last : OwnedPair K V) (list : List (OwnedPair K V)) → list_all (λ one. is_like cmp one last) list ≡ true → HaveKey last list
  have_key last [] e = tt
  have_key last (one ∷ list) e =
      let here = both_true (is_like cmp one last) (list_all (λ one. is_like cmp one last) list) e in
      let equal = (both_true (one.hash == last.hash) (is_eq (cmp (pair_in one).0 (pair_in last).0)) here.0).1 in
      (is_Equal _ (order_agrees hash cmp h.same_hash (pair_in one).0 (pair_in last).0 ∙ equal), have_key last list here.1)

  like_all : (last : OwnedPair K V) → last.hash ≡ hash (pair_in last).0 → (list : List (OwnedPair K V)) → AreHashed hash list →
      HaveKey last list → list_all (λ one. is_like cmp one last) list ≡ true
  like_all last is [] hashed have = refl
  like_all last is (one ∷ list) hashed have =
      let equal : is_eq (cmp (pair_in one).0 (pair_in last).0) ≡ true =
      sym (order_agrees hash cmp h.same_hash (pair_in one).0 (pair_in last).0) ∙ ap is_eq have.0 in
      let one_hash : one.hash ≡ last.hash = hashed.0 ∙ h.same_hash (pair_in one).0 (pair_in last).0 (is_Equal _ equal) ∙ sym is in
      and_from _ _ (and_from _ _ (eq-eqb one.hash last.hash one_hash) equal) (like_all last is list hashed.1 have.1)

  -- of pairs of one key the last makes a leaf
  pub leaf_made : (depth : ℕ) (list : List (OwnedPair K V)) (last : OwnedPair K V) → Some last ≡ slice_get list (length list - 1) →
      list_all (λ one. is_like cmp one last) list ≡ true → (pair : K × V) → pair ≡ pair_in last →
      (slot : Option (Node K V)) → slot ≡ Some (Leaf pair) → IsMadeOf hash cmp depth (pairs_in list) slot
  leaf_made depth [] last is like pair pair_is slot slot_is = absurd (cc)
  leaf_made depth (one ∷ list) last is like pair pair_is slot slot_is = rw slot_is (record {
    at = λ prefix deep below.
        let have = have_key last (one ∷ list) like in
        let end : length (one ∷ list) - 1 ≡ length list = omega arith in
        let here : Some last ≡ slice_get (one ∷ list) (length list) = rw end at is in
        let only = last_stands (digit_order hash cmp) (digit_total hash cmp h) (pair_in last) (pairs_in list) (pair_in one) have.0 have.1
        (pair_in last) (last_folded one list last here) in
        let starts = last_of (λ p. StartsWith prefix (digits (hash p.0))) (one ∷ list) (length list) last here below in
        let prefix_is : prefix ≡ first_digits (hash pair.0) depth =
        rw (pair_is, ← deep) (starts_is prefix (digits (hash (pair_in last).0)) starts) in
        rw (only, ← pair_is, prefix_is) (leaf_holds hash cmp pair (hash pair.0) depth refl);
  })

  -- pairs of more keys make more entries
  pub more_keys : (list : List (OwnedPair K V)) (last : OwnedPair K V) → Some last ≡ slice_get list (length list - 1) → AreHashed hash list →
      list_all (λ one. is_like cmp one last) list ≡ false → 2 ≤ length (with_pairs (digit_order hash cmp) (pairs_in list) [])
  more_keys [] last is hashed other = absurd (cc)
  more_keys (one ∷ list) last is hashed other = by_entries _ refl
    where
      end : length (one ∷ list) - 1 ≡ length list
      end = omega arith

      here : Some last ≡ slice_get (one ∷ list) (length list)
      here = rw end at is

      by_entries : (es : List (K × V)) → with_pairs (digit_order hash cmp) (pairs_in (one ∷ list)) [] ≡ es → 2 ≤ length es
      by_entries [] made =
          let some = with_pairs-some (digit_order hash cmp) (pairs_in (one ∷ list)) [] (omega arith) in
          absurd (omega (arith, some, ap length made))
      by_entries (e ∷ f ∷ es) made = omega arith
      by_entries (e ∷ []) made =
          let total = digit_total hash cmp h in
          let all = (alike_pairs (digit_order hash cmp) total e (pairs_in (one ∷ list)) [] (rw made (tied_itself total e.0, tt))).0 in
          let same : digit_order hash cmp (pair_in last).0 e.0 ≡ Equal =
          last_of (λ p. digit_order hash cmp p.0 e.0 ≡ Equal) (one ∷ list) (length list) last here all in
          let have = all-weaken (λ p. digit_order hash cmp p.0 e.0 ≡ Equal) (λ p. digit_order hash cmp p.0 (pair_in last).0 ≡ Equal)
          (λ p equal. alike_right total (pair_in last).0 e.0 p.0 same ∙ equal) (pairs_in (one ∷ list)) all in
          let never = like_all last (last_hash (one ∷ list) (length list) last here hashed) (one ∷ list) hashed have in
          absurd (cc)

module _ {K V : Type 0} (hash : K → ℕ) (cmp : K → K → Ordering) where
  -- no pairs have no node
  pub none_made : (depth : ℕ) (list : List (OwnedPair K V)) → list ≡ [] → IsMadeOf hash cmp depth (pairs_in list) None
  none_made depth list none = record {
    at = λ prefix deep below. record { placed = tt; entries_are = ap (λ l. with_pairs (digit_order hash cmp) (pairs_in l) []) (sym none) };
  }

  all_below : (ps : List (K × V)) → AreBelow hash [] ps
  all_below [] = tt
  all_below (p ∷ ps) = (tt, all_below ps)

  hashed_each : (list : List (OwnedPair K V)) → HaveTheirHashes hash (map bare list) → AreHashed hash list
  hashed_each [] hashed = tt
  hashed_each (one ∷ list) hashed = (
    All-head (λ one. one.hash ≡ hash one.pair.0) (bare one) (map bare list) hashed,
    hashed_each list (All-tail (λ one. one.hash ≡ hash one.pair.0) (bare one) (map bare list) hashed),
  )

  rise_each : (list : List (OwnedPair K V)) → Rise (map bare list) → Rise list
  rise_each list rise depth low i j d le lt =
      let long = length-map list bare in
      let first = get_or-map bare list i d (bare d) (omega (arith, le, lt)) in
      let second = get_or-map bare list j d (bare d) lt in
      omega (arith, rise depth low i j (bare d) le (omega (arith, long, lt)), ap (λ one. first_number one.hash depth) first, ap (λ one. first_number one.hash depth) second)

  pub bare_pairs : (list : List (OwnedPair K V)) → pairs_in list ≡ hashed_pairs (map bare list)
  bare_pairs [] = refl
  bare_pairs (one ∷ list) = ap (λ l. pair_in one ∷ l) (bare_pairs list)

  -- all pairs are below the empty prefix
  pub root_prefix : (list : List (OwnedPair K V)) (sorted : List (Hashed (K × V))) → map bare list ≡ sorted → HaveTheirHashes hash sorted →
      Rise sorted → length list < 2 ^ 64 → HaveOnePrefix hash 0 list
  root_prefix list sorted same hashed rise fits = record {
    prefix = [];
    deep = refl;
    low = omega arith;
    below = all_below (pairs_in list);
    hashed = hashed_each list (rw same hashed);
    rise = rise_each list (rw same rise);
    fits = fits;
  }

  pub root_entries : (ps : List (K × V)) (slot : Option (Node K V)) → IsMadeOf hash cmp 0 ps slot →
      entries_in slot ≡ with_pairs (digit_order hash cmp) ps []
  root_entries ps slot made = (made.at [] refl (all_below ps)).entries_are

  pub root_trie : (ps : List (K × V)) (slot : Option (Node K V)) → IsMadeOf hash cmp 0 ps slot → length ps < 2 ^ 64 →
      IsTrie hash cmp slot
  root_trie ps slot made fits =
      let most = with_pairs-most (digit_order hash cmp) ps [] in
      record {
        placed = (made.at [] refl (all_below ps)).placed;
        fits = omega (arith, ap length (root_entries ps slot made), most, fits);
      }
