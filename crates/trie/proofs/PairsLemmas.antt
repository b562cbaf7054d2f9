-- Pairs that are laid over entries one after another.
use Rattle.std.proofs.Common.{◌≡◌, ℕ, ◌+◌, ◌<◌, ◌≤◌, Bool, true, false, cond, Some, None, List, [], ◌∷◌, drop, get_or, length, map, refl, sym, ap, ◌∙◌, arith, inl, inr}
use Rattle.std.specs.Prelude.{⊤}
use Rattle.std.specs.Cmp.{IsTotalOrder}
use Rattle.std.specs.FinMap.{IsAntisymmetric, insert}
use Rattle.std.specs.List.{All, AllByRecursion, filter, fold}
use Rattle.std.specs.Map.{keys_of}
use Rattle.std.specs.Ordering.{eq_by_cmp, is_eq, is_lt, ordering_reverse}
use Rattle.std.specs.declared.alloc.Global.{Global}
use Rattle.std.specs.declared.cmp.Ordering.{Ordering}
use Rattle.std.specs.declared.cmp.Ordering.TheVariants.{Less, Equal, Greater}
use Rattle.std.specs.declared.sync.Arc.{Arc}
use Rattle.std.proofs.lemmas.Bool.{cases_Bool}
use Rattle.std.proofs.lemmas.Cmp.{alike_right, tied_itself}
use Rattle.std.proofs.lemmas.List.{at_drop_all, at_drop_more}
use Rattle.std.proofs.lemmas.List.Elements.{All-head, All-tail}
use Rattle.trie.specs.Digits.{digit_order}
use Rattle.trie.specs.Entries.{entry_at, IsRising, with_pair, with_pairs}
use Rattle.trie.specs.Holding.{pairs_of}
use Rattle.trie.specs.Maps.{map_of}
use Rattle.trie.proofs.EntriesLemmas.{with_pair-all, with_pair-most, with_pair-sorted}
use Rattle.trie.proofs.FoundLemmas.{none_below}
use Rattle.trie.proofs.ListsLemmas.{all-each}
use Rattle.trie.proofs.MapsLemmas.{below_alike, below_more, entry-with_pair, HaveHashes, is_Equal, put_map}

module _ {K V : Type 0} (R : K → K → Ordering) where
  -- at most an entry more for each pair
  pub with_pairs-most : (ps es : List (K × V)) → length (with_pairs R ps es) ≤ length es + length ps
  with_pairs-most [] es = omega arith
  with_pairs-most (p ∷ ps) es =
      let one = with_pair-most R p.0 p.1 es in
      let rest = with_pairs-most ps (with_pair R p.0 p.1 es) in
      omega (arith, one.1, rest)

  -- no entry is lost
  with_pairs-least : (ps es : List (K × V)) → 0 < length es → 0 < length (with_pairs R ps es)
  with_pairs-least [] es some = some
  with_pairs-least (p ∷ ps) es some = with_pairs-least ps (with_pair R p.0 p.1 es) (with_pair-most R p.0 p.1 es).0

  pub with_pairs-some : (ps es : List (K × V)) → 0 < length ps → 0 < length (with_pairs R ps es)
  with_pairs-some [] es some = absurd (omega arith)
  with_pairs-some (p ∷ ps) es some = with_pairs-least ps (with_pair R p.0 p.1 es) (with_pair-most R p.0 p.1 es).0

  pub with_pairs-all : (P : K × V → Type 0) (ps es : List (K × V)) → AllByRecursion P ps → AllByRecursion P es →
      AllByRecursion P (with_pairs R ps es)
  with_pairs-all P [] es new old = old
  with_pairs-all P (p ∷ ps) es new old =
      with_pairs-all P ps (with_pair R p.0 p.1 es) new.1 (with_pair-all R p.0 p.1 P new.0 es old)

  pub with_pairs-sorted : IsTotalOrder R → (ps es : List (K × V)) → IsRising R (keys_of es) → IsRising R (keys_of (with_pairs R ps es))
  with_pairs-sorted total [] es rising = rising
  with_pairs-sorted total (p ∷ ps) es rising =
      with_pairs-sorted total ps (with_pair R p.0 p.1 es) (with_pair-sorted R p.0 p.1 total es rising)

  module _ (total : IsTotalOrder R) where
    first_found : (e : K × V) (es : List (K × V)) → entry_at R (e ∷ es) e.0 ≡ Some e
    first_found e es = rw (tied_itself total e.0) refl

    found_nothing : (q : K) (es fs : List (K × V)) (e : K × V) → entry_at R es q ≡ Some e → entry_at R es q ≡ entry_at R fs q →
        entry_at R fs q ≡ None → ⊥
    found_nothing q es fs e some same none = let never = sym some ∙ same ∙ none in cc

    less_nothing : (q : K) (f : K × V) (fs : List (K × V)) → R q f.0 ≡ Less → IsRising R (keys_of (f ∷ fs)) →
        entry_at R (f ∷ fs) q ≡ None
    less_nothing q f fs less rising =
        none_below R (f ∷ fs) q (less, below_more total (keys_of fs) q f.0 less rising.0)

    -- rising entries of some keys that are found alike, at each of these keys, are the same
    module _ (P : K → Type 0) where
      abbrev FoundAlike : List (K × V) → List (K × V) → Type 0
      FoundAlike es fs = (q : K) → P q → entry_at R es q ≡ entry_at R fs q

      firsts_same : (o : Ordering) (e f : K × V) (es fs : List (K × V)) → R e.0 f.0 ≡ o → IsRising R (keys_of (e ∷ es)) →
          IsRising R (keys_of (f ∷ fs)) → P e.0 → P f.0 → FoundAlike (e ∷ es) (f ∷ fs) → e ≡ f
      firsts_same Less e f es fs is es_rise fs_rise here there alike =
          absurd (found_nothing e.0 (e ∷ es) (f ∷ fs) e (first_found e es) (alike e.0 here) (less_nothing e.0 f fs is fs_rise))
      firsts_same Equal e f es fs is es_rise fs_rise here there alike =
          let one : Some e ≡ entry_at R (f ∷ fs) e.0 = sym (first_found e es) ∙ alike e.0 here in
          let two : entry_at R (f ∷ fs) e.0 ≡ Some f = rw is refl in
          let both = one ∙ two in cc
      firsts_same Greater e f es fs is es_rise fs_rise here there alike =
          absurd (found_nothing f.0 (f ∷ fs) (e ∷ es) f (first_found f fs) (sym (alike f.0 there))
          (less_nothing f.0 e es (total.antisymm f.0 e.0 ∙ ap ordering_reverse is) es_rise))

      rest_alike : (b : Bool) (q : K) (e : K × V) (es fs : List (K × V)) → is_eq (R q e.0) ≡ b → (b ≡ true → entry_at R es q ≡ None) →
          (b ≡ true → entry_at R fs q ≡ None) → entry_at R (e ∷ es) q ≡ entry_at R (e ∷ fs) q → entry_at R es q ≡ entry_at R fs q
      rest_alike true q e es fs is none also alike = none refl ∙ sym (also refl)
      rest_alike false q e es fs is none also alike = rw is at alike

      behind_nothing : (q : K) (e : K × V) (es : List (K × V)) → IsRising R (keys_of (e ∷ es)) → is_eq (R q e.0) ≡ true →
          entry_at R es q ≡ None
      behind_nothing q e es rising same =
          none_below R es q (below_alike total (keys_of es) q e.0 (is_Equal _ same) rising.0)

      pub same_by_entries : (es fs : List (K × V)) → IsRising R (keys_of es) → IsRising R (keys_of fs) →
          AllByRecursion (λ e. P e.0) es → AllByRecursion (λ e. P e.0) fs → FoundAlike es fs → es ≡ fs
      same_by_entries [] [] es_rise fs_rise here there alike = refl
      same_by_entries [] (f ∷ fs) es_rise fs_rise here there alike =
          absurd (found_nothing f.0 (f ∷ fs) [] f (first_found f fs) (sym (alike f.0 there.0)) refl)
      same_by_entries (e ∷ es) [] es_rise fs_rise here there alike =
          absurd (found_nothing e.0 (e ∷ es) [] e (first_found e es) (alike e.0 here.0) refl)
      same_by_entries (e ∷ es) (f ∷ fs) es_rise fs_rise here there alike =
          let first : e ≡ f = firsts_same (R e.0 f.0) e f es fs refl es_rise fs_rise here.0 there.0 alike in
          let fs_rise_too : IsRising R (keys_of (e ∷ fs)) = rw first fs_rise in
          let rest : es ≡ fs = same_by_entries es fs es_rise.1 fs_rise.1 here.1 there.1 (λ q p.
          rest_alike (is_eq (R q e.0)) q e es fs refl (behind_nothing q e es es_rise) (behind_nothing q e fs fs_rise_too)
          (alike q p ∙ rw first refl)) in
          rw (first, rest) refl

    module _ (e : K × V) where
      abbrev IsAlike : K × V → Type 0
      IsAlike x = R x.0 e.0 ≡ Equal

      alike_before : (o : Ordering) (p x : K × V) (l xs : List (K × V)) → R p.0 x.0 ≡ o →
          AllByRecursion IsAlike (cond (is_lt o) (p ∷ x ∷ xs) (cond (is_eq o) (p ∷ xs) (x ∷ l))) →
          (AllByRecursion IsAlike l → IsAlike p × AllByRecursion IsAlike xs) → IsAlike p × AllByRecursion IsAlike (x ∷ xs)
      alike_before Less p x l xs is all rest = (all.0, (all.1.0, all.1.1))
      alike_before Equal p x l xs is all rest = (all.0, (sym (total.congr p.0 x.0 e.0 is) ∙ all.0, all.1))
      alike_before Greater p x l xs is all rest = let more = rest all.1 in (more.0, (all.0, more.1))

      alike_pair : (p : K × V) (es : List (K × V)) → AllByRecursion IsAlike (with_pair R p.0 p.1 es) →
          IsAlike p × AllByRecursion IsAlike es
      alike_pair p [] all = (all.0, tt)
      alike_pair p (x ∷ xs) all =
          alike_before (R p.0 x.0) p x (with_pair R p.0 p.1 xs) xs refl all (λ more. alike_pair p xs more)

      -- where one entry comes of all pairs, they have its key
      pub alike_pairs : (ps es : List (K × V)) → AllByRecursion IsAlike (with_pairs R ps es) →
          AllByRecursion IsAlike ps × AllByRecursion IsAlike es
      alike_pairs [] es all = (tt, all)
      alike_pairs (p ∷ ps) es all =
          let rest = alike_pairs ps (with_pair R p.0 p.1 es) all in
          let here = alike_pair p es rest.1 in
          ((here.0, rest.0), here.1)

      -- of pairs of one key the last stands
      pub last_stands : (ps : List (K × V)) (old : K × V) → IsAlike old → AllByRecursion IsAlike ps → (last : K × V) →
          fold (λ _ p. p) old ps ≡ last → with_pairs R ps (old ∷ []) ≡ last ∷ []
      last_stands [] old here all last is = ap (λ x. x ∷ []) is
      last_stands (p ∷ ps) old here all last is =
          let same : R p.0 old.0 ≡ Equal = alike_right total old.0 e.0 p.0 here ∙ all.0 in
          rw same (last_stands ps p all.0 all.1 last is)

module _ {K V : Type 0} (hash : K → ℕ) (cmp : K → K → Ordering) (h : HaveHashes hash cmp) where
  -- pairs laid one after another are inserts one after another
  pub puts_map : (es ps : List (K × V)) → IsAntisymmetric cmp →
      map_of cmp (with_pairs (digit_order hash cmp) ps es) ≡ fold (λ m p. insert m p.0 p.1) (map_of cmp es) ps
  puts_map es [] exact = refl
  puts_map es (p ∷ ps) exact =
      puts_map (with_pair (digit_order hash cmp) p.0 p.1 es) ps exact
      ∙ ap (λ m. fold (λ m q. insert m q.0 q.1) m ps) (put_map hash cmp h es p.0 p.1 exact)

-- where a test passes each pair of a key, the key is found among those that pass as among all
module _ {X K V : Type 0} (pair : X → K × V) (R : K → K → Ordering) (total : IsTotalOrder R) where
  module _ (test : X → Bool) (q : K) (P : X → Type 0) (passes : (x : X) → P x → eq_by_cmp R q (pair x).0 ≡ true → test x ≡ true) where
    other_key : (x : X) → P x → test x ≡ false → eq_by_cmp R q (pair x).0 ≡ false
    other_key x here fails = elim (cases_Bool (eq_by_cmp R q (pair x).0)) [
      | inl same ↦ let never = sym fails ∙ passes x here same in absurd (cc)
      | inr other ↦ other
    ]

    found_more : (x : X) (kept xs : List X) (es fs : List (K × V)) (b : Bool) → P x → test x ≡ b → entry_at R es q ≡ entry_at R fs q →
        ((es fs : List (K × V)) → entry_at R es q ≡ entry_at R fs q →
        entry_at R (with_pairs R (map pair kept) es) q ≡ entry_at R (with_pairs R (map pair xs) fs) q) →
        entry_at R (with_pairs R (map pair (cond b (x ∷ kept) kept)) es) q
        ≡ entry_at R (with_pairs R (map pair xs) (with_pair R (pair x).0 (pair x).1 fs)) q
    found_more x kept xs es fs true here is same rest =
        rest _ _
        (entry-with_pair total es (pair x).0 (pair x).1 q ∙ ap (λ o. cond (eq_by_cmp R q (pair x).0) (Some (pair x)) o) same
        ∙ sym (entry-with_pair total fs (pair x).0 (pair x).1 q))
    found_more x kept xs es fs false here is same rest =
        rest _ _ (same ∙ sym (entry-with_pair total fs (pair x).0 (pair x).1 q ∙ rw (other_key x here is) refl))

    pub found_kept : (xs : List X) → All P xs → (es fs : List (K × V)) → entry_at R es q ≡ entry_at R fs q →
        entry_at R (with_pairs R (map pair (filter test xs)) es) q ≡ entry_at R (with_pairs R (map pair xs) fs) q
    found_kept [] all es fs same = same
    found_kept (x ∷ xs) all es fs same =
        found_more x (filter test xs) xs es fs (test x) (All-head P x xs all) refl same
        (λ es fs alike. found_kept xs (All-tail P x xs all) es fs alike)

-- lists of which tests that pass each pair of a key keep the same make the same map
module _ {X K V : Type 0} (pair : X → K × V) (R : K → K → Ordering) (total : IsTotalOrder R) (P : X → Type 0) (test : K → X → Bool)
    (passes : (q : K) (x : X) → P x → eq_by_cmp R q (pair x).0 ≡ true → test q x ≡ true) where
  abbrev made : List X → List (K × V)
  made list = with_pairs R (map pair list) []

  kept_found : (q : K) (list : List X) → All P list → entry_at R (made (filter (test q) list)) q ≡ entry_at R (made list) q
  kept_found q list all = found_kept pair R total (test q) q P (λ x here same. passes q x here same) list all [] [] refl

  pub kept_made : (old new : List X) → All P old → All P new → ((q : K) → filter (test q) new ≡ filter (test q) old) → made new ≡ made old
  kept_made old new all also same =
      same_by_entries R total (λ k. ⊤) _ _ (with_pairs-sorted R total (map pair new) [] tt) (with_pairs-sorted R total (map pair old) [] tt)
      (all-each (λ _. ⊤) (λ _. tt) _) (all-each (λ _. ⊤) (λ _. tt) _)
      (λ q _. sym (kept_found q new also) ∙ ap (λ list. entry_at R (made list) q) (same q) ∙ kept_found q old all)

-- one pair more of a list is laid over what is held, and none is left
module _ {K V : Type 0} (cmp : K → K → Ordering) (pairs : List (Arc (K × V) Global)) (k : ℕ) where
  pub pair_laid : (one : Arc (K × V) Global) → k < length pairs → one ≡ get_or pairs k one → (held new : List (K × V)) →
      new ≡ with_pair cmp one.value.0 one.value.1 held → (all : List (K × V)) → with_pairs cmp (pairs_of (drop k pairs)) held ≡ all →
      with_pairs cmp (pairs_of (drop (k + 1) pairs)) new ≡ all
  pair_laid one within is held new laid all kept =
      ap (λ h. with_pairs cmp (pairs_of (drop (k + 1) pairs)) h) laid
      ∙ ap (λ (q : Arc (K × V) Global). with_pairs cmp (pairs_of (q ∷ drop (k + 1) pairs)) held) is
      ∙ sym (at_drop_more (λ l. with_pairs cmp (pairs_of l) held) pairs k one within) ∙ kept

  pub pairs_laid : length pairs ≤ k → (held all : List (K × V)) → with_pairs cmp (pairs_of (drop k pairs)) held ≡ all → held ≡ all
  pairs_laid end held all kept = sym (at_drop_all (λ l. with_pairs cmp (pairs_of l) held) pairs k end) ∙ kept
