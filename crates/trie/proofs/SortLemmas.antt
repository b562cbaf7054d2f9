-- Hashes in the order of their digits, and pairs that are sorted so: they make the same map.
use Rattle.std.proofs.Common.{◌≡◌, ℕ, ◌+◌, ◌-◌, ◌*◌, ◌<◌, ◌≤◌, ◌^◌, Bool, true, List, [], ◌∷◌, length, take, get_or, zero, suc, add-one, refl, sym, ap, ◌∙◌, arith}
use Rattle.std.specs.Prelude.{⊤}
use Rattle.std.specs.Arc.{arc_with_value}
use Rattle.std.specs.Cmp.{IsTotalOrder}
use Rattle.std.specs.List.Sorted.{IsSortedByKey, IsStableBy, IsStableByKey, ties}
use Rattle.std.specs.Ordering.{eq_by_cmp, is_lt, nat_cmp, ordering_reverse}
use Rattle.std.specs.declared.alloc.Global.{Global}
use Rattle.std.specs.declared.cmp.Ordering.{Ordering}
use Rattle.std.specs.declared.cmp.Ordering.TheVariants.{Equal}
use Rattle.std.specs.declared.sync.Arc.{Arc}
use Rattle.std.proofs.Math.Nat.{pow-le-pow_right, pow-suc}
use Rattle.std.proofs.lemmas.Cmp.{nat_cmp_total, tied_itself}
use Rattle.std.proofs.lemmas.List.Sorted.{IsNonDecreasingBy-from_sort}
use Rattle.std.proofs.lemmas.List.Sums.{fold-append}
use Rattle.trie.specs.Building.{AreSmall, HaveTheirHashes, Rise, hashed_pairs}
use Rattle.trie.specs.Digits.{digit, digit_count, digit_order, digits, digits_number, first_number, last, last_count, slot_count}
use Rattle.trie.specs.Entries.{with_pairs}
use Rattle.trie.specs.Holding.{pairs_of}
use Rattle.trie.specs.declared.build.Hashed.{Hashed}
use Rattle.trie.proofs.DigitsLemmas.{take-digits}
use Rattle.trie.proofs.MapsLemmas.{digit_total, HaveHashes, is_Equal}
use Rattle.trie.proofs.OrderLemmas.{order_agrees}
use Rattle.trie.proofs.PairsLemmas.{kept_made}

-- the digits so far as a number, with one digit more
pub number_more : (hash depth number : ℕ) → depth < digit_count → number ≡ first_number hash depth →
    number * slot_count + digit hash depth ≡ first_number hash (depth + 1)
number_more hash depth number low is =
    rw (take-digits hash depth low, fold-append (λ n d. n * slot_count + d) 0 (take depth (digits hash)) (digit hash depth ∷ []), ← is) refl

-- one digit more has room in one power more
pub number_fits : (number d depth : ℕ) → number < slot_count ^ depth → d < slot_count → number * slot_count + d < slot_count ^ (depth + 1)
number_fits number d depth small low =
    let step : slot_count ^ (depth + 1) ≡ slot_count ^ depth * slot_count = rw (add-one, pow-suc slot_count depth) refl in
    omega (arith, step, small, low)

pub number_bound : (number d depth : ℕ) → number < slot_count ^ depth → d < slot_count → depth < last → number * slot_count + d < 2 ^ 64
number_bound number d depth small low within =
    let fits = number_fits number d depth small low in
    let most : slot_count ^ (depth + 1) ≤ slot_count ^ last = pow-le-pow_right {n = slot_count} (omega arith) {i = depth + 1} {j = last} (omega (arith, within)) in
    omega (arith, fits, most)

-- ---- hashes in the order of their digits

-- the last digit of a hash of 64 bits has no more values than it has room
last_low : (hash : ℕ) → hash < 2 ^ 64 → digit hash last < last_count
last_low hash small = omega arith

digit_low : (hash depth : ℕ) → digit hash depth < slot_count
digit_low hash depth = omega arith

module _ (h g : ℕ) (h_small : h < 2 ^ 64) (g_small : g < 2 ^ 64) (le : digits_number h ≤ digits_number g) where
  numbers_rise : (more depth : ℕ) → depth + more ≡ digit_count → first_number h depth ≤ first_number g depth
  numbers_rise zero depth all =
      let same : depth ≡ last + 1 = omega arith in
      let first = number_more h last _ (omega arith) refl in
      let second = number_more g last _ (omega arith) refl in
      rw same (omega (arith, first, second, le, last_low h h_small, last_low g g_small))
  numbers_rise (suc more) depth all =
      let low : depth < digit_count = omega arith in
      let next = numbers_rise more (depth + 1) (omega arith) in
      omega (arith, next, number_more h depth _ low refl, number_more g depth _ low refl, digit_low h depth, digit_low g depth)

-- hashes that are sorted by all digits are sorted by the first ones
pub sorted_rise : {P : Type 0} (list : List (Hashed P)) → AreSmall list → IsSortedByKey (λ one. digits_number one.hash) nat_cmp list → Rise list
sorted_rise list small sorted depth low i j d le lt =
    let up = IsNonDecreasingBy-from_sort (λ one. digits_number one.hash) list sorted i j d le lt in
    numbers_rise (get_or list i d).hash (get_or list j d).hash (small i d (omega (arith, le, lt))) (small j d lt) up (digit_count - depth) depth (omega (arith, low))

-- ---- pairs in that order make the same map

module _ {K V : Type 0} (hash : K → ℕ) (cmp : K → K → Ordering) (h : HaveHashes hash cmp) where
  -- those that tie with a pair of a key have its digits
  tied : (one p : Hashed (K × V)) → one.hash ≡ hash one.pair.0 → p.hash ≡ hash p.pair.0 → eq_by_cmp (digit_order hash cmp) one.pair.0 p.pair.0 ≡ true →
      ties (λ x y. is_lt (nat_cmp (digits_number x.hash) (digits_number y.hash))) one p ≡ true
  tied one p one_is p_is same =
      let equal = h.same_hash one.pair.0 p.pair.0 (is_Equal _ (sym (order_agrees hash cmp h.same_hash one.pair.0 p.pair.0) ∙ same)) in
      let alike : one.hash ≡ p.hash = one_is ∙ (equal ∙ sym p_is) in
      rw (alike, tied_itself nat_cmp_total (digits_number p.hash)) refl

  -- some pair of a key, which says which pairs tie with it
  abbrev like : V → K → Hashed (K × V)
  like v q = record { hash = hash q; pair = (q, v) }

  -- pairs that were sorted by digits, those of one hash in their order, make the same map
  pub sorted_made : (old new : List (Hashed (K × V))) → HaveTheirHashes hash old → HaveTheirHashes hash new →
      IsStableByKey (λ one. digits_number one.hash) nat_cmp old new → length new ≡ length old →
      with_pairs (digit_order hash cmp) (hashed_pairs new) [] ≡ with_pairs (digit_order hash cmp) (hashed_pairs old) []
  sorted_made [] [] hashed also stable long = refl
  sorted_made [] (n ∷ new) hashed also stable long = absurd (omega arith)
  sorted_made (o ∷ old) new hashed also stable long =
      kept_made (λ (one : Hashed (K × V)). one.pair) (digit_order hash cmp) (digit_total hash cmp h) (λ one. one.hash ≡ hash one.pair.0)
      (λ q one. ties (λ x y. is_lt (nat_cmp (digits_number x.hash) (digits_number y.hash))) (like o.pair.1 q) one)
      (λ q one one_is same. tied (like o.pair.1 q) one refl one_is same) (o ∷ old) new hashed also (λ q. stable (like o.pair.1 q))

-- so do pairs of one hash that were sorted by their keys
module _ {K V : Type 0} (cmp : K → K → Ordering) (total : IsTotalOrder cmp) where
  abbrev is_below : Arc (K × V) Global → Arc (K × V) Global → Bool
  is_below x y = is_lt (cmp x.value.0 y.value.0)

  tied_keys : (one p : Arc (K × V) Global) → eq_by_cmp cmp one.value.0 p.value.0 ≡ true → ties is_below one p ≡ true
  tied_keys one p same =
      let equal : cmp one.value.0 p.value.0 ≡ Equal = is_Equal _ same in
      let back : cmp p.value.0 one.value.0 ≡ Equal = total.antisymm p.value.0 one.value.0 ∙ ap ordering_reverse equal in
      rw (equal, back) refl

  pub in_order_made : (old new : List (Arc (K × V) Global)) → IsStableBy is_below old new → length new ≡ length old →
      with_pairs cmp (pairs_of new) [] ≡ with_pairs cmp (pairs_of old) []
  in_order_made [] [] stable long = refl
  in_order_made [] (n ∷ new) stable long = absurd (omega arith)
  in_order_made (o ∷ old) new stable long =
      kept_made (λ (p : Arc (K × V) Global). p.value) cmp total (λ _. ⊤) (λ q p. ties is_below (arc_with_value o (q, o.value.1)) p)
      (λ q p _ same. tied_keys (arc_with_value o (q, o.value.1)) p same) (o ∷ old) new (λ k d lt. tt) (λ k d lt. tt)
      (λ q. stable (arc_with_value o (q, o.value.1)))
