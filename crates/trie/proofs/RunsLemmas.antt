-- Runs of pairs that have one digit at a depth, and the children that are made of them.
use Rattle.std.proofs.Common.{◌≡◌, ◌==◌, ℕ, ◌+◌, ◌*◌, ◌^◌, ◌<◌, ◌≤◌, Bool, true, false, Option, Some, None, List, [], ◌∷◌, ◌++◌, length, take, drop, get_or, set, refl, sym, ap, ◌∙◌, subst, append_assoc, arith, inl, inr, length-append, length-drop}
use Rattle.std.specs.Prelude.{slice_get}
use Rattle.std.specs.List.{All, AllByRecursion, fold}
use Rattle.std.specs.List.Sorted.{IsNonDecreasingBy, IsPartitionPoint}
use Rattle.std.specs.declared.cmp.Ordering.{Ordering}
use Rattle.std.proofs.Math.Nat.{pow-le-pow_right}
use Rattle.std.proofs.Math.Seq.{drop-append_seam}
use Rattle.std.proofs.lemmas.Bool.{cases_lt, eq-eqb, eqb-true}
use Rattle.std.proofs.lemmas.List.{append-nil, get_or-drop, get_or-replicate, get_or-set_other, get_or-set_same, get_or-take, length-take, take-append-drop}
use Rattle.std.proofs.lemmas.List.Elements.{All-cons, All-drop, All-head, All-nil, All-weaker, filter-append, recursion_from_All}
use Rattle.std.proofs.lemmas.List.Sorted.{IsNonDecreasingBy-drop}
use Rattle.std.proofs.lemmas.Nat.{pow_pos}
use Rattle.trie.specs.Building.{AreBelow, AreHashed, AreMadeOf, HaveOnePrefix, IsBegun, IsMadeOf, IsRun, OwnedPair, pair_in, pairs_in, with_digit}
use Rattle.trie.specs.Dense.{slots_in, slots_of}
use Rattle.trie.specs.Digits.{digit, digit_count, digits, first_digits, first_number, slot_count}
use Rattle.trie.specs.Nodes.{Node}
use Rattle.trie.specs.Tree.{StartsWith}
use Rattle.trie.specs.declared.build.Hashed.{Hashed}
use Rattle.trie.proofs.BuildLemmas.{none_made}
use Rattle.trie.proofs.DenseLemmas.{slots_of-none}
use Rattle.trie.proofs.MeetLemmas.{starts_is}
use Rattle.trie.proofs.DigitsLemmas.{unlike}
use Rattle.trie.proofs.ListsLemmas.{all-map, all-unmap, filter_all, filter_none}
use Rattle.trie.proofs.SortLemmas.{number_more}

module _ {X : Type 0} where
  all_behind : (P : X → Type 0) (xs ys : List X) → All P (xs ++ ys) → All P ys
  all_behind P xs ys all = subst (All P) (drop-append_seam xs ys) (All-drop P (length xs) (xs ++ ys) all)

  each_behind : (P : X → Type 0) (xs ys : List X) → AllByRecursion P (xs ++ ys) → AllByRecursion P ys
  each_behind P [] ys all = all
  each_behind P (x ∷ xs) ys all = each_behind P xs ys all.1

module _ {P : Type 0} (depth : ℕ) where
  alike_kept : (d : ℕ) (run : List (Hashed P)) → All (λ one. digit one.hash depth ≡ d) run → with_digit depth d run ≡ run
  alike_kept d run alike =
      filter_all (λ one. digit one.hash depth == d) run (recursion_from_All _ run
      (All-weaker (λ one. digit one.hash depth ≡ d) (λ one. (digit one.hash depth == d) ≡ true) (λ one same. eq-eqb _ _ same) run alike))

  other_kept : (d : ℕ) (list : List (Hashed P)) → All (λ one. digit one.hash depth ≡ d → ⊥) list → with_digit depth d list ≡ []
  other_kept d list other =
      filter_none (λ one. digit one.hash depth == d) list (recursion_from_All _ list
      (All-weaker (λ one. digit one.hash depth ≡ d → ⊥) (λ one. (digit one.hash depth == d) ≡ false) (λ one apart. unlike _ _ apart) list other))

  -- what is so of the digit of each of a run and of those after it is so of the run's digit
  at_run : (d : ℕ) (run rest : List (Hashed P)) → 0 < length run → All (λ one. digit one.hash depth ≡ d) run → (T : ℕ → Type 0) →
      All (λ one. T (digit one.hash depth)) (run ++ rest) → T d
  at_run d [] rest some alike T all = absurd (omega arith)
  at_run d (one ∷ run) rest some alike T all =
      subst T (All-head (λ one. digit one.hash depth ≡ d) one run alike) (All-head (λ one. T (digit one.hash depth)) one (run ++ rest) all)

  module _ (list : List (Hashed P)) (d : ℕ) (run rest : List (Hashed P)) (is : IsRun depth list d run rest) where
    -- a run has those of its digit
    pub run_kept : run ≡ with_digit depth d list
    run_kept =
        let none = other_kept d rest (All-weaker (λ one. d < digit one.hash depth) (λ one. digit one.hash depth ≡ d → ⊥)
        (λ one more e. absurd (omega (arith, more, e))) rest is.above) in
        rw (is.joined, filter-append, none, alike_kept d run is.alike) (sym (append-nil run))

    -- a place where the list is cut
    pub fewer_left : length rest < length list
    fewer_left = omega (arith, ap length is.joined, length-append run rest, is.some)

-- where digits do not fall, those up to the first one's are a run
pub run_made : {P : Type 0} (depth : ℕ) (list : List (Hashed P)) → IsNonDecreasingBy (λ one. digit one.hash depth) list → (first : Hashed P) →
    Some first ≡ slice_get list 0 → (d : ℕ) → d ≡ digit first.hash depth → d < slot_count → (end : ℕ) → end ≤ length list →
    IsPartitionPoint (λ one. digit one.hash depth ≤ d) (λ one. d < digit one.hash depth) list end →
    IsRun depth list d (take end list) (drop end list)
run_made depth [] up first is d d_is low end within parted = absurd (cc)
run_made {P} depth (one ∷ list) up first is d d_is low end within parted = record {
  low = low;
  joined = sym (take-append-drop end whole);
  some = omega (arith, long, some);
  alike = λ k other lt.
      let read = get_or-take end whole k other (omega (arith, long, lt)) in
      let least = up 0 k other (omega arith) (omega (arith, long, lt)) in
      let most = parted.0 k other (omega arith) (omega (arith, long, lt)) in
      omega (arith, ap (λ x. digit x.hash depth) read, least, most, here);
  above = λ k other lt.
      let left = length-drop end whole in
      rw (get_or-drop end whole k other) (parted.1 (end + k) other (omega arith) (omega (arith, left, lt)));
}
  where
    whole : List (Hashed P)
    whole = one ∷ list

    here : d ≡ digit one.hash depth
    here = let same : first ≡ one = cc in d_is ∙ ap (λ x. digit x.hash depth) same

    long : length (take end whole) ≡ end
    long = omega (arith, length-take end whole, within)

    some : 0 < end
    some = elim (cases_lt 0 end) [
      | inl more ↦ more
      | inr none ↦
          let above = parted.1 0 one (omega (arith, none)) (omega arith) in
          absurd (omega (arith, above, here))
    ]

-- pairs of one prefix have digits that do not fall
module _ {K V : Type 0} (hash : K → ℕ) where
  digits_are : (prefix : List ℕ) (list : List (OwnedPair K V)) → AreBelow hash prefix (pairs_in list) →
      AreHashed hash list → All (λ one. first_digits one.hash (length prefix) ≡ prefix) list
  digits_are prefix [] below hashed = All-nil (λ one. first_digits one.hash (length prefix) ≡ prefix)
  digits_are prefix (one ∷ list) below hashed =
      All-cons (λ one. first_digits one.hash (length prefix) ≡ prefix) one list
      (rw hashed.0 (sym (starts_is prefix (digits (hash (pair_in one).0)) below.0)))
      (digits_are prefix list below.1 hashed.1)

  pub digits_rise : (depth : ℕ) (list : List (OwnedPair K V)) → HaveOnePrefix hash depth list → depth < digit_count →
      IsNonDecreasingBy (λ one. digit one.hash depth) list
  digits_rise depth list have low i j other le lt =
      let are = digits_are have.prefix list have.below have.hashed in
      let one = get_or list i other in
      let next = get_or list j other in
      let number : List ℕ → ℕ = λ ds. fold (λ n d. n * slot_count + d) 0 ds in
      let first : first_number one.hash depth ≡ number have.prefix = ap number (rw have.deep at (are i other (omega (arith, le, lt)))) in
      let second : first_number next.hash depth ≡ number have.prefix = ap number (rw have.deep at (are j other lt)) in
      let rise = have.rise (depth + 1) (omega (arith, low)) i j other le lt in
      omega (arith, first, second, rise, number_more one.hash depth _ low refl, number_more next.hash depth _ low refl)

  -- the pairs behind a run
  pub rest_below : (depth : ℕ) (list run rest : List (OwnedPair K V)) → HaveOnePrefix hash depth list → list ≡ run ++ rest → HaveOnePrefix hash depth rest
  rest_below depth list run rest have is =
      let below = rw is at have.below in
      let hashed = rw is at have.hashed in
      let P : K × V → Type 0 = λ p. StartsWith have.prefix (digits (hash p.0)) in
      record {
        prefix = have.prefix;
        deep = have.deep;
        low = have.low;
        below = all-map pair_in P rest (each_behind (λ one. P (pair_in one)) run rest (all-unmap pair_in P (run ++ rest) below));
        hashed = each_behind (λ one. one.hash ≡ hash (pair_in one).0) run rest hashed;
        rise = λ n within.
            subst (IsNonDecreasingBy (λ one. first_number one.hash n)) (ap (drop (length run)) is ∙ drop-append_seam run rest)
            (IsNonDecreasingBy-drop (λ one. first_number one.hash n) (length run) list (have.rise n within));
        fits = omega (arith, ap length is, length-append run rest, have.fits);
      }

module _ {K V : Type 0} (hash : K → ℕ) (cmp : K → K → Ordering) (depth : ℕ) (list : List (OwnedPair K V)) where
  nothing_at : (X : Type 0) (k : ℕ) → k < slot_count → get_or (slots_of {X = X} 0 []) k None ≡ None
  nothing_at X k lt = rw (slots_of-none X) (get_or-replicate slot_count k None None lt)

  -- no child yet
  pub begun_none : IsBegun hash cmp depth list list 0 (slots_in 0 [])
  begun_none = record {
    front = [];
    joined = refl;
    made = λ k lt. rw (nothing_at (Node K V) k lt) (none_made hash cmp (depth + 1) [] refl);
    before = λ k other lt. pow_pos (digit (get_or list k other).hash depth);
    none = λ k other lt. refl;
  }

  module _ (left : List (OwnedPair K V)) (bitmap : ℕ) (slots : List (Option (Node K V))) (begun : IsBegun hash cmp depth list left bitmap slots) where
    -- all children
    pub begun_all : left ≡ [] → AreMadeOf hash cmp depth list slots
    begun_all none =
        let all : list ≡ begun.front = begun.joined ∙ (ap (λ l. begun.front ++ l) none ∙ append-nil begun.front) in
        subst (λ l. AreMadeOf hash cmp depth l slots) (sym all) begun.made

    module _ (d : ℕ) (run rest : List (OwnedPair K V)) (is : IsRun depth left d run rest) where
      -- the bits so far are below the next one's
      pub run_before : bitmap < 2 ^ d
      run_before = at_run depth d run rest is.some is.alike (λ n. bitmap < 2 ^ n) (rw is.joined at begun.before)

      none_before : with_digit depth d begun.front ≡ []
      none_before = at_run depth d run rest is.some is.alike (λ n. with_digit depth n begun.front ≡ []) (rw is.joined at begun.none)

      made_at : (slot : Option (Node K V)) → length slots ≡ slot_count → IsMadeOf hash cmp (depth + 1) (pairs_in run) slot →
          (k : ℕ) → k < slot_count → (b : Bool) → (k == d) ≡ b →
          IsMadeOf hash cmp (depth + 1) (pairs_in (with_digit depth k (begun.front ++ run))) (get_or (set slots d slot) k None)
      made_at slot wide child k lt true same =
          let here : k ≡ d = eqb-true k d same in
          rw (here, filter-append, none_before, alike_kept depth d run is.alike, get_or-set_same slots d slot None (omega (arith, wide, is.low))) child
      made_at slot wide child k lt false other =
          let apart : d ≡ k → ⊥ = λ (e : d ≡ k). let never = sym other ∙ eq-eqb k d (sym e) in cc in
          let none = other_kept depth k run (apart_from k apart) in
          rw (filter-append, none, append-nil, get_or-set_other slots d k slot None (λ e. apart (sym e))) (begun.made k lt)
        where
          apart_from : (k : ℕ) → (d ≡ k → ⊥) → All (λ one. digit one.hash depth ≡ k → ⊥) run
          apart_from k other =
              All-weaker (λ one. digit one.hash depth ≡ d) (λ one. digit one.hash depth ≡ k → ⊥) (λ one same e. other (sym same ∙ e)) run is.alike

      -- one child more
      pub begun_more : (more : ℕ) (slot : Option (Node K V)) → length slots ≡ slot_count → IsMadeOf hash cmp (depth + 1) (pairs_in run) slot →
          more < 2 ^ (d + 1) → IsBegun hash cmp depth list rest more (set slots d slot)
      begun_more more slot wide child small =
          let behind = all_behind (λ one. with_digit depth (digit one.hash depth) begun.front ≡ []) run rest (rw is.joined at begun.none) in
          record {
            front = begun.front ++ run;
            joined = begun.joined ∙ (ap (λ l. begun.front ++ l) is.joined ∙ sym (append_assoc begun.front run rest));
            made = λ k lt. made_at slot wide child k lt (k == d) refl;
            before = λ k other lt.
                let above = is.above k other lt in
                let power = pow-le-pow_right {n = 2} (omega arith) {i = d + 1} {j = digit (get_or rest k other).hash depth} (omega (arith, above)) in
                omega (arith, power, small);
            none = λ k other lt.
                let above = is.above k other lt in
                let e = digit (get_or rest k other).hash depth in
                let apart : All (λ one. digit one.hash depth ≡ e → ⊥) run =
                All-weaker (λ one. digit one.hash depth ≡ d) (λ one. digit one.hash depth ≡ e → ⊥) (λ one same never. absurd (omega (arith, same, never, above))) run is.alike in
                rw (filter-append, behind k other lt, other_kept depth e run apart) refl;
          }
