-- Each step keeps the rule of the deal's word.
use Rattle.std.proofs.Common.{◌≡◌, ◌≢◌, ◌⊎◌, ℕ, zero, suc, ◌+◌, ◌-◌, ◌%◌, ◌^◌, ◌<◌, ◌≤◌, eqb, List, [], ◌∷◌, ◌++◌, length, take, drop, set, All, refl, sym, ap, ◌∙◌, subst, ⊎_elim, arith, length-append, length-drop, append_assoc, append-nil, cond, inl, inr, ne_eqb, eq-eqb, length-set, get_or}
use Rattle.std.specs.Prelude.{slice_index}
use Rattle.std.specs.Cmp.{nat_eq_equiv}
use Rattle.std.specs.List.{IsDistinct}
use Rattle.std.proofs.lemmas.Bool.{eqb-true}
use Rattle.std.proofs.lemmas.List.{drop_all, drop-append-le}
use Rattle.std.proofs.lemmas.List.Folds.{Any-from_list_any}
use Rattle.std.proofs.lemmas.List.Elements.{All-head, All-weaker, All-nil, All-cons, All-push, All-drop, All-append, All-tail}
use Rattle.std.proofs.lemmas.Map.Keys.{IsDistinct-push}
use Rattle.std.proofs.lemmas.Map.Steps.{length-le_from_distinct_below}
use mathlib.Core.Option.{some, some-injective, some-ne-none}
use mathlib.Core.Logic.{dite}
use native.Mathlib.Decide.{dec_le}
use lib.ListN.{get_elem?}
use Rattle.atomic_table.specs.Table.{State, Me, keeps, Allows, Splits, Joins, opening}
use Rattle.atomic_table.proofs.Lists.{at_set}
use Rattle.crew.specs.declared.law.Sight.{Sight}
use Rattle.crew.specs.Draws.{IsAbsent}
use Rattle.crew.specs.Law.{sight, only, fresh, Drew, Fits, Kept}
use Rattle.crew.specs.Limits.{piece_limit, seat_limit}
use Rattle.crew.proofs.SeatLemmas.{fresh_more}
use Rattle.crew.proofs.HistoryLemmas.{absent_append, absent_late, absent_one}

-- distinct seats are no more than there are
few_distinct : (seats : ℕ) (xs : List ℕ) → IsDistinct eqb xs → All (λ x. x < seats) xs → length xs ≤ seats
few_distinct seats xs apart small =
    length-le_from_distinct_below xs seats apart
    (λ q e. let a = Any-from_list_any (eqb q) xs e in
    let is : q ≡ a.1 = eqb-true q a.1 a.4 in
    let there : a.1 < seats = subst (λ (z : ℕ). z < seats) a.3 (small a.0 a.1 a.2) in
    omega arith)

-- what another token has stays right
others : (seats : ℕ) (history : List ℕ) (owner : ℕ → ℕ) (id by seat : ℕ) (v : List Sight) → owner seat ≡ by → id ≢ by → All (Fits seats history owner id) v → All (Fits seats (history ++ seat ∷ []) owner id) v
others seats history owner id by seat v is apart =
    All-weaker (Fits seats history owner id) (Fits seats (history ++ seat ∷ []) owner id)
    (λ s f. record {
      owned = f.owned;
      small = f.small;
      begins = record {
        rest = f.begins.rest ++ seat ∷ [];
        is = ap (λ l. l ++ seat ∷ []) f.begins.is ∙ append_assoc s.seen f.begins.rest (seat ∷ []);
        no_other = absent_append s.seat f.begins.rest (seat ∷ []) f.begins.no_other (absent_one s.seat seat (λ e. apart (sym f.owned ∙ (ap owner e ∙ is))));
      };
    })
    v

nothing : IsDistinct eqb []
unfolding IsDistinct
nothing = tt

late_more : (n : ℕ) (history seen rest : List ℕ) (seat : ℕ) → history ≡ seen ++ rest → length seen ≤ n → IsAbsent seat rest → IsDistinct eqb (drop n history) → IsDistinct eqb (drop n (history ++ seat ∷ []))
late_more n history seen rest seat is few absent old =
    dite (dec_le n (length history))
    (λ h. let gone : IsAbsent seat (drop n history) = rw is (absent_late seat n seen rest few absent) in
    rw (drop-append-le n history (seat ∷ []) h) (IsDistinct-push nat_eq_equiv (drop n history) seat old gone))
    (λ h. rw (drop_all n (history ++ seat ∷ []) (omega (arith, length-append history (seat ∷ [])))) nothing)

counted : (n : ℕ) (xs : List ℕ) (seat : ℕ) → n ≡ length xs → n + 1 < 2 ^ 64 → (n + 1) % 2 ^ 64 ≡ length (xs ++ seat ∷ [])
counted n xs seat is small = omega (arith, length-append xs (seat ∷ []))

-- the last place, and the places before it
at_end : {A : Type 0} (l : List A) (a b : A) (j : ℕ) → get_elem? (l ++ a ∷ []) j ≡ some b → (get_elem? l j ≡ some b) ⊎ ((j ≡ length l) × (a ≡ b))
at_end [] a b zero e = inr (refl, some-injective a b e)
at_end [] a b (suc j) e = absurd (some-ne-none b (sym e))
at_end (x ∷ xs) a b zero e = inl e
at_end (x ∷ xs) a b (suc j) e = ⊎_elim inl (λ (t : (j ≡ length xs) × (a ≡ b)). inr (ap suc t.0, t.1)) (at_end xs a b j e)

-- a place is within the list
within : {A : Type 0} (l : List A) (j : ℕ) (a : A) → get_elem? l j ≡ some a → j < length l
within [] j a e = absurd (some-ne-none a (sym e))
within (x ∷ xs) zero a e = omega arith
within (x ∷ xs) (suc j) a e = omega (arith, within xs j a e)

-- sights that change hands
handed : (seats : ℕ) (history : List ℕ) (owner now : ℕ → ℕ) (id by : ℕ) (v : List Sight) → ((s : Sight) → Fits seats history owner id s → now s.seat ≡ by) → All (Fits seats history owner id) v → All (Fits seats history now by) v
handed seats history owner now id by v same = All-weaker (Fits seats history owner id) (Fits seats history now by) (λ s f. record { owned = same s f; small = f.small; begins = f.begins }) v

fits_fresh : (seats k count : ℕ) → k + count ≤ seats → All (Fits seats [] (λ _. 0) 0) (fresh k count)
fits_fresh seats k zero h = All-nil (Fits seats [] (λ _. 0) 0)
fits_fresh seats k (suc count) h = All-cons (Fits seats [] (λ _. 0) 0) (sight k []) (fresh (k + 1) count) (record { owned = refl; small = omega arith; begins = record { rest = []; is = refl; no_other = refl } }) (fits_fresh seats (k + 1) count (omega arith))

fresh_above : (j k count : ℕ) → j < k → All (λ (s : Sight). j < s.seat) (fresh k count)
fresh_above j k zero h = All-nil (λ (s : Sight). j < s.seat)
fresh_above j k (suc count) h = All-cons (λ (s : Sight). j < s.seat) (sight k []) (fresh (k + 1) count) h (fresh_above j (k + 1) count (omega arith))

module _ {S : Type 0} (n seats : ℕ) where
  abbrev Rule : State S (List Sight) → Type 0
  Rule = Kept n seats

  -- past the last piece each seat draws once at most
  pub bounded : (t : State S (List Sight)) (k : Rule t) → length k.history ≤ n + seats
  bounded t k = omega (arith, length-drop n k.history, few_distinct seats (drop n k.history) k.late (All-drop (λ x. x < seats) n k.history k.small))

  pub draws : (slots id seat : ℕ) (seen : List ℕ) → slots ≡ 0 → n ≤ piece_limit → seats ≤ seat_limit → length seen ≤ n
      → Allows Rule slots id (sight seat seen ∷ [], []) 0 (λ k. (k + 1) % 2 ^ 64) (λ found after. Drew (sight seat seen) found after.0 × (after.1 ≡ []))
  draws slots id seat seen none_home few_pieces few_seats early t k homes at bound =
      let s : Sight = sight seat seen in
      let mine : Fits seats k.history k.owner id s = All-head (Fits seats k.history k.owner id) s [] (k.each id (s ∷ []) at) in
      let b = mine.begins in
      let longer : List ℕ = k.history ++ seat ∷ [] in
      let new : Sight = sight seat longer in
      let short = bounded t k in
      let found : slice_index t.words 0 ≡ length k.history = ap (λ l. slice_index l 0) k.counts in
      let fits : Fits seats longer k.owner id new = record { owned = mine.owned; small = mine.small; begins = record { rest = []; is = sym (append-nil longer); no_other = refl } } in (
        new ∷ [],
        keeps,
        tt,
        record {
          history = longer;
          owner = k.owner;
          counts = ap (λ l. set l 0 ((slice_index t.words 0 + 1) % 2 ^ 64)) k.counts ∙ ap (λ m. m ∷ []) (counted (slice_index t.words 0) k.history seat found (omega arith));
          small = All-push (λ x. x < seats) k.history seat k.small mine.small;
          late = late_more n k.history seen b.rest seat b.is early b.no_other k.late;
          each = λ by v there. ⊎_elim
              (λ (same : (by ≡ id) × (new ∷ [] ≡ v)). subst (λ (y : ℕ × List Sight). All (Fits seats longer k.owner y.0) y.1) (λ i. (sym same.0 i, same.1 i)) (All-cons (Fits seats longer k.owner id) new [] fits (All-nil (Fits seats longer k.owner id))))
              (λ (other : (by ≢ id) × (get_elem? t.views by ≡ some v)). others seats k.history k.owner by id seat v mine.owned other.0 (k.each by v other.1))
              (at_set t.views id by (new ∷ []) v there);
        },
        (record { history = k.history; begins = b; counts = found; sees = refl }, refl),
      )

  -- the same at a token that is known to have this sight alone
  pub draws_as : (slots id : ℕ) (me : Me S (List Sight)) (seat : ℕ) (seen : List ℕ) → me ≡ (sight seat seen ∷ [], []) → slots ≡ 0 → n ≤ piece_limit → seats ≤ seat_limit → length seen ≤ n
      → Allows Rule slots id me 0 (λ k. (k + 1) % 2 ^ 64) (λ found after. Drew (only me.0) found after.0 × (after.1 ≡ me.1))
  draws_as slots id me seat seen sole none_home few_pieces few_seats early =
      let P : Me S (List Sight) → Type 0 = λ x. Allows Rule slots id x 0 (λ k. (k + 1) % 2 ^ 64) (λ found after. Drew (only x.0) found after.0 × (after.1 ≡ x.1)) in
      subst P (sym sole) (draws slots id seat seen none_home few_pieces few_seats early)

  pub begins : (homes : List S) → Rule (opening (0 ∷ []) homes (fresh 0 seats))
  begins homes = record {
    history = [];
    owner = λ _. 0;
    counts = refl;
    small = All-nil (λ x. x < seats);
    late = rw (drop_all {X = ℕ} n [] (omega arith)) nothing;
    each = one;
  }
    where
      one : (id : ℕ) (v : List Sight) → get_elem? (fresh 0 seats ∷ []) id ≡ some v → All (Fits seats [] (λ _. 0) id) v
      one zero v e = subst (All (Fits seats [] (λ _. 0) 0)) (some-injective (fresh 0 seats) v e) (fits_fresh seats 0 seats (omega arith))
      one (suc id) v e = absurd (some-ne-none v (sym e))

  pub splits : (id k count : ℕ) → Splits Rule id (fresh k (suc count)) (fresh (k + 1) count) (sight k [] ∷ [])
  splits id k count t r at =
      let left : List Sight = fresh (k + 1) count in
      let all = r.each id (sight k [] ∷ left) at in
      let first : Fits seats r.history r.owner id (sight k []) = All-head (Fits seats r.history r.owner id) (sight k []) left all in
      let others = All-tail (Fits seats r.history r.owner id) (sight k []) left all in
      let now : ℕ → ℕ = λ x. cond (eqb x k) (length t.views) (r.owner x) in
      let F : ℕ → Sight → Type 0 = Fits seats r.history now in
      let given : F (length t.views) (sight k []) = record { owned = rw (eq-eqb k k refl) refl; small = first.small; begins = first.begins } in
      let kept : (s : Sight) → k < s.seat → Fits seats r.history r.owner id s → F id s = λ s above f. record { owned = rw (ne_eqb s.seat k (λ e. omega arith)) f.owned; small = f.small; begins = f.begins } in
      record {
        history = r.history;
        owner = now;
        counts = r.counts;
        small = r.small;
        late = r.late;
        each = λ by u e. ⊎_elim
            (λ (old : get_elem? (set t.views id left) by ≡ some u). ⊎_elim
            (λ (x : (by ≡ id) × (left ≡ u)). subst (λ (z : ℕ × List Sight). All (F z.0) z.1) (λ i. (sym x.0 i, x.1 i)) (λ i d h. kept (get_or left i d) (fresh_above k (k + 1) count (omega arith) i d h) (others i d h)))
            (λ (x : (by ≢ id) × (get_elem? t.views by ≡ some u)). handed seats r.history r.owner now by by u (λ s f. rw (ne_eqb s.seat k (λ e. x.0 (sym f.owned ∙ (ap r.owner e ∙ first.owned)))) f.owned) (r.each by u x.1))
            (at_set t.views id by left u old))
            (λ (new : (by ≡ length (set t.views id left)) × (sight k [] ∷ [] ≡ u)). subst (λ (z : ℕ × List Sight). All (F z.0) z.1) (λ i. (sym (new.0 ∙ length-set t.views id left) i, new.1 i)) (All-cons (F (length t.views)) (sight k []) [] given (All-nil (F (length t.views)))))
            (at_end (set t.views id left) (sight k [] ∷ []) u by e);
      }

  pub joins : (id other : ℕ) (v w : List Sight) → Joins Rule id v other w (v ++ w) []
  joins id other v w t r at apart there =
      let both : List Sight = v ++ w in
      let was : get_elem? t.views other ≡ some w = ⊎_elim (λ (e : (other ≡ id) × (both ≡ w)). absurd (apart e.0)) (λ (e : (other ≢ id) × (get_elem? t.views other ≡ some w)). e.1) (at_set t.views id other both w there) in
      let now : ℕ → ℕ = λ x. cond (eqb (r.owner x) other) id (r.owner x) in
      let F : ℕ → Sight → Type 0 = Fits seats r.history now in
      let mine : All (F id) v = handed seats r.history r.owner now id id v (λ s f. rw (ne_eqb (r.owner s.seat) other (λ e. apart (sym e ∙ f.owned))) f.owned) (r.each id v at) in
      let theirs : All (F id) w = handed seats r.history r.owner now other id w (λ s f. rw (eq-eqb (r.owner s.seat) other f.owned) refl) (r.each other w was) in
      record {
        history = r.history;
        owner = now;
        counts = r.counts;
        small = r.small;
        late = r.late;
        each = λ by u e. ⊎_elim
            (λ (x : (by ≡ other) × ([] ≡ u)). subst (All (F by)) x.1 (All-nil (F by)))
            (λ (x : (by ≢ other) × (get_elem? (set t.views id both) by ≡ some u)). ⊎_elim
            (λ (y : (by ≡ id) × (both ≡ u)). subst (λ (z : ℕ × List Sight). All (F z.0) z.1) (λ i. (sym y.0 i, y.1 i)) (All-append (F id) v w mine theirs))
            (λ (y : (by ≢ id) × (get_elem? t.views by ≡ some u)). handed seats r.history r.owner now by by u (λ s f. rw (ne_eqb (r.owner s.seat) other (λ e. x.0 (sym f.owned ∙ e))) f.owned) (r.each by u y.1))
            (at_set t.views id by both u x.1))
            (at_set (set t.views id both) other by [] u e);
      }

  -- the same at a view that is known to be this
  pub splits_as : (id : ℕ) (v : List Sight) (k all : ℕ) → k < all → v ≡ fresh k (all - k) → Splits Rule id v (drop 1 v) (take 1 v)
  splits_as id v k all more known =
      let these : v ≡ fresh k (suc (all - (k + 1))) = known ∙ fresh_more k all more in
      subst (λ (x : List Sight). Splits Rule id x (drop 1 x) (take 1 x)) (sym these) (splits id k (all - (k + 1)))
