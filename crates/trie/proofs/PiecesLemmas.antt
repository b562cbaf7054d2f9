-- The pieces of a map are parts of it, and are all of it.
use Rattle.std.proofs.Common.{◌≡◌, ℕ, ◌+◌, ◌<◌, ◌≤◌, suc, zero, get_or, Bool, true, false, cond, List, [], ◌∷◌, ◌++◌, length, refl, sym, ap, ◌∙◌, arith, inl, inr, length-append}
use Rattle.std.specs.Prelude.{nat_eq}
use Rattle.std.specs.Cmp.Lexicographic.{slice_cmp}
use Rattle.std.specs.List.{AllByRecursion, filter, flat_map, range_with_len, starts_with}
use Rattle.std.specs.Map.{keys_of}
use Rattle.std.specs.Ordering.{nat_cmp, ordering_reverse}
use Rattle.std.specs.declared.cmp.Ordering.{Ordering}
use Rattle.std.specs.declared.cmp.Ordering.TheVariants.{Less, Greater}
use Rattle.std.proofs.lemmas.Bool.{cases_lt}
use Rattle.std.proofs.lemmas.List.{append-nil}
use Rattle.std.proofs.lemmas.List.Elements.{filter_passes, recursion_from_All}
use Rattle.std.proofs.lemmas.Cmp.{nat_list_cmp_total}
use Rattle.trie.specs.Cuts.{cut, cut_below, is_opened, IsPart, unless_empty, with_prefix}
use Rattle.trie.specs.Digits.{digit_count, digit_order, digits, slot_count}
use Rattle.trie.specs.Entries.{IsRising}
use Rattle.trie.specs.Maps.{RiseByHash}
use Rattle.trie.specs.Tree.{StartsWith}
use Rattle.trie.proofs.DigitsLemmas.{begins, begins_not, begun, begun_front, get_or-digits, length-digits, parts_less, starts_with-next}
use Rattle.trie.proofs.EntriesLemmas.{from_keys-all, keys-all}
use Rattle.trie.proofs.ListsLemmas.{all-append, all-each, all-filter, all-weaken, filter_all}
use Rattle.trie.proofs.PartsLemmas.{Climbs, Tells, filter_twice, flat_map-same, flat_map-twice, parts_joined}
use Rattle.trie.proofs.SlotsLemmas.{IsBelow}

all_flat : {X Y : Type 0} (P : X → Type 0) (f : Y → List X) (ys : List Y) → AllByRecursion (λ y. AllByRecursion P (f y)) ys →
    AllByRecursion P (flat_map f ys)
all_flat P f [] all = tt
all_flat P f (y ∷ ys) all = all-append P (f y) (flat_map f ys) all.0 (all_flat P f ys all.1)

module _ {K V : Type 0} (hash : K → ℕ) (cmp : K → K → Ordering) where
  filter_rises_kept : (p : K × V → Bool) (b : Bool) (e : K × V) (es left : List (K × V)) →
      AllByRecursion (λ k. digit_order hash cmp e.0 k ≡ Less) (keys_of left) →
      IsRising (digit_order hash cmp) (keys_of left) → IsRising (digit_order hash cmp) (keys_of (cond b (e ∷ left) left))
  filter_rises_kept p true e es left above rest = (above, rest)
  filter_rises_kept p false e es left above rest = rest

  filter_rises : (p : K × V → Bool) (es : List (K × V)) → IsRising (digit_order hash cmp) (keys_of es) →
      IsRising (digit_order hash cmp) (keys_of (filter p es))
  filter_rises p [] rising = tt
  filter_rises p (e ∷ es) rising =
      filter_rises_kept p (p e) e es (filter p es)
      (keys-all (λ k. digit_order hash cmp e.0 k ≡ Less) (filter p es)
      (all-filter p (λ f. digit_order hash cmp e.0 f.0 ≡ Less) es
      (from_keys-all (λ k. digit_order hash cmp e.0 k ≡ Less) es rising.0)))
      (filter_rises p es rising.1)

  module _ (prefix : List ℕ) (short : length prefix < digit_count) where
    -- the digit behind the prefix, and its test
    abbrev dig : K × V → ℕ
    dig e = get_or (digits (hash e.0)) (length prefix) 0

    abbrev test : ℕ → K × V → Bool
    test d e = starts_with nat_eq (digits (hash e.0)) (prefix ++ d ∷ [])

    longer : (e : K × V) → IsBelow hash cmp prefix e → StartsWith (prefix ++ dig e ∷ []) (digits (hash e.0))
    longer e below =
        starts_with-next prefix (dig e) (digits (hash e.0)) below (omega (arith, length-digits (hash e.0))) refl

    tells : (e : K × V) → IsBelow hash cmp prefix e → Tells dig test e
    tells e below = record {
      own = begins (prefix ++ dig e ∷ []) (digits (hash e.0)) (longer e below);
      others = λ d other. begins_not prefix (dig e) d [] (digits (hash e.0)) (longer e below) other;
    }

    low_digit : (e : K × V) → dig e < slot_count
    low_digit e = rw (get_or-digits (hash e.0) (length prefix) short) (omega arith)

    -- of two keys in order, the first has no greater digit
    in_order : (e f : K × V) → IsBelow hash cmp prefix e → IsBelow hash cmp prefix f →
        digit_order hash cmp e.0 f.0 ≡ Less → dig e ≤ dig f
    in_order e f below also less = elim (cases_lt (dig f) (dig e)) [
      | inl falls ↦
          let back : slice_cmp nat_cmp (digits (hash f.0)) (digits (hash e.0)) ≡ Less =
          parts_less prefix (dig f) (dig e) _ _ falls (longer f also) (longer e below) in
          let greater : slice_cmp nat_cmp (digits (hash e.0)) (digits (hash f.0)) ≡ Greater =
          nat_list_cmp_total.antisymm (digits (hash e.0)) (digits (hash f.0)) ∙ ap ordering_reverse back in
          absurd (cc (rw greater at less))
      | inr climbs ↦ climbs
    ]

    first_climbs : (e : K × V) (es : List (K × V)) → IsBelow hash cmp prefix e → AllByRecursion (IsBelow hash cmp prefix) es →
        AllByRecursion (λ k. digit_order hash cmp e.0 k ≡ Less) (keys_of es) → AllByRecursion (λ f. dig e ≤ dig f) es
    first_climbs e [] here all less = tt
    first_climbs e (f ∷ es) here all less =
        (in_order e f here all.0 less.0, first_climbs e es here all.1 less.1)

    climbs : (es : List (K × V)) → AllByRecursion (IsBelow hash cmp prefix) es →
        IsRising (digit_order hash cmp) (keys_of es) → Climbs dig test es
    climbs [] all rising = tt
    climbs (e ∷ es) all rising = (first_climbs e es all.0 all.1 rising.0, climbs es all.1 rising.1)

    low_all : (es : List (K × V)) → AllByRecursion (λ e. dig e < slot_count) es
    low_all [] = tt
    low_all (e ∷ es) = (low_digit e, low_all es)

    -- the entries of each digit behind the prefix, joined in order, are all entries
    digits_joined : (es : List (K × V)) → AllByRecursion (IsBelow hash cmp prefix) es →
        IsRising (digit_order hash cmp) (keys_of es) →
        flat_map (λ d. with_prefix hash (prefix ++ d ∷ []) es) (range_with_len 0 slot_count) ≡ es
    digits_joined es all rising =
        parts_joined dig test slot_count es (all-weaken (IsBelow hash cmp prefix) (Tells dig test) tells es all)
        (climbs es all rising) (low_all es)

  unless_joined : (es : List (K × V)) → flat_map (λ x. x) (unless_empty es) ≡ es
  unless_joined [] = refl
  unless_joined (e ∷ es) = append-nil (e ∷ es)

  -- the entries of a prefix have it
  all_below : (prefix : List ℕ) (es : List (K × V)) → AllByRecursion (IsBelow hash cmp prefix) (with_prefix hash prefix es)
  all_below prefix es =
      all-weaken (λ e. starts_with nat_eq (digits (hash e.0)) prefix ≡ true) (IsBelow hash cmp prefix)
      (λ e is. begun prefix (digits (hash e.0)) is) (with_prefix hash prefix es)
      (recursion_from_All _ (with_prefix hash prefix es) (filter_passes (λ e. starts_with nat_eq (digits (hash e.0)) prefix) es))

  unless_part : (whole : List (K × V)) (prefix : List ℕ) (es : List (K × V)) → es ≡ with_prefix hash prefix whole →
      AllByRecursion (IsPart hash whole) (unless_empty es)
  unless_part whole prefix [] is = tt
  unless_part whole prefix (e ∷ es) is = (record { prefix = prefix; entries_are = is; some = omega arith }, tt)

  module _ (most small : ℕ) where
    -- the pieces below a prefix, joined in order, are the entries
    joined_below : (n : ℕ) (prefix : List ℕ) → length prefix + n ≡ digit_count → (es : List (K × V)) →
        AllByRecursion (IsBelow hash cmp prefix) es → IsRising (digit_order hash cmp) (keys_of es) →
        flat_map (λ x. x) (cut_below hash most small n prefix es) ≡ es
    unfolding cut_below
    joined_below zero prefix full es all rising = unless_joined es
    joined_below (suc n) prefix full es all rising =
        let short : length prefix < digit_count = omega (arith, full) in
        by_test (is_opened most small (length prefix) (length es)) _
        (flat_map-twice (λ d. cut_below hash most small n (prefix ++ d ∷ []) (with_prefix hash (prefix ++ d ∷ []) es))
        (range_with_len 0 slot_count)
        ∙ flat_map-same (λ d. flat_map (λ x. x) (cut_below hash most small n (prefix ++ d ∷ []) (with_prefix hash (prefix ++ d ∷ []) es)))
        (λ d. with_prefix hash (prefix ++ d ∷ []) es)
        (λ d. joined_below n (prefix ++ d ∷ []) (omega (arith, full, length-append prefix (d ∷ [])))
        (with_prefix hash (prefix ++ d ∷ []) es) (all_below (prefix ++ d ∷ []) es)
        (filter_rises (λ e. starts_with nat_eq (digits (hash e.0)) (prefix ++ d ∷ [])) es rising)) (range_with_len 0 slot_count)
        ∙ digits_joined prefix short es all rising)
      where
        by_test : (b : Bool) (pieces : List (List (K × V))) → flat_map (λ x. x) pieces ≡ es →
            flat_map (λ x. x) (cond b pieces (unless_empty es)) ≡ es
        by_test true pieces opened = opened
        by_test false pieces opened = unless_joined es

    -- each piece below a prefix is a part of the whole
    parts_below : (whole : List (K × V)) (n : ℕ) (prefix : List ℕ) → (es : List (K × V)) → es ≡ with_prefix hash prefix whole →
        AllByRecursion (IsPart hash whole) (cut_below hash most small n prefix es)
    unfolding cut_below
    parts_below whole zero prefix es is = unless_part whole prefix es is
    parts_below whole (suc n) prefix es is =
        by_test (is_opened most small (length prefix) (length es)) _
        (all_flat (IsPart hash whole)
        (λ d. cut_below hash most small n (prefix ++ d ∷ []) (with_prefix hash (prefix ++ d ∷ []) es)) (range_with_len 0 slot_count)
        (all-each _ (λ d. parts_below whole n (prefix ++ d ∷ []) (with_prefix hash (prefix ++ d ∷ []) es)
        (rw is (filter_twice (λ e. starts_with nat_eq (digits (hash e.0)) (prefix ++ d ∷ []))
        (λ e. starts_with nat_eq (digits (hash e.0)) prefix)
        (λ e long. begun_front prefix (d ∷ []) (digits (hash e.0)) long) whole))) (range_with_len 0 slot_count)))
      where
        by_test : (b : Bool) (pieces : List (List (K × V))) → AllByRecursion (IsPart hash whole) pieces →
            AllByRecursion (IsPart hash whole) (cond b pieces (unless_empty es))
        by_test true pieces opened = opened
        by_test false pieces opened = unless_part whole prefix es is

  -- the pieces of a map, joined in order, are its entries
  pub pieces_joined : (es : List (K × V)) (depth small : ℕ) → RiseByHash hash cmp (keys_of es) →
      flat_map (λ piece. piece) (cut hash depth small es) ≡ es
  pieces_joined es depth small rising =
      joined_below depth small digit_count [] refl es (all-each (IsBelow hash cmp []) (λ e. tt) es) rising

  -- each piece is a part of the entries
  pub pieces_parts : (es : List (K × V)) (depth small : ℕ) → AllByRecursion (IsPart hash es) (cut hash depth small es)
  pieces_parts es depth small =
      parts_below depth small es digit_count [] es
      (sym (filter_all (λ e. starts_with nat_eq (digits (hash e.0)) []) es (all-each _ (λ e. refl) es)))
