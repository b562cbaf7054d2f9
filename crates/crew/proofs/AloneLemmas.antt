-- One worker, who takes all places.
use Rattle.std.proofs.Common.{◌≡◌, ℕ, zero, suc, ◌+◌, ◌<◌, ◌≤◌, List, [], ◌∷◌, ◌++◌, sym, ◌∙◌, ap, subst, arith}
use Rattle.std.specs.List.{AllByRecursion, AllZip, range_with_len}
use Rattle.std.proofs.lemmas.List.{append-nil, map-id}
use Rattle.std.proofs.lemmas.List.FromFn.{map-range_with_len_more}
use Rattle.std.proofs.lemmas.List.Sorted.{IsPermutation-refl}
use Rattle.std.specs.Prelude.{IsPermutation}
use Rattle.crew.specs.Draws.{PlacesRise}
use Rattle.crew.specs.Shares.{AreShared}
use Rattle.crew.specs.Tasks.{IsShare, MayTake}

-- with one place more
range_next : (n : ℕ) → range_with_len 0 (n + 1) ≡ range_with_len 0 n ++ n ∷ []
range_next n =
    let here : 0 + n ≡ n = omega arith in
    sym (map-id (range_with_len 0 (n + 1))) ∙ map-range_with_len_more (λ k. k) 0 n n here ∙ ap (λ l. l ++ n ∷ []) (map-id (range_with_len 0 n))

range_above : (a n m : ℕ) → m < a → AllByRecursion (λ k. m < k) (range_with_len a n)
range_above a zero m h = tt
range_above a (suc n) m h = (h, range_above (a + 1) n m (omega (arith, h)))

range_below : (a n count : ℕ) → a + n ≤ count → AllByRecursion (λ k. k < count) (range_with_len a n)
range_below a zero count h = tt
range_below a (suc n) count h = (omega (arith, h), range_below (a + 1) n count (omega (arith, h)))

range_rises : (a n : ℕ) → PlacesRise (range_with_len a n)
range_rises a zero = tt
range_rises a (suc n) = (range_above (a + 1) n a (omega arith), range_rises (a + 1) n)

is_share : (n count : ℕ) → n ≤ count → IsShare count (range_with_len 0 n)
is_share n count h = record { rising = range_rises 0 n; below = range_below 0 n count (omega (arith, h)) }

module _ {Made : Type 0} (makes : List ℕ → Made → Type 0) where
  -- the next place may be taken
  pub may_take_next : (count place : ℕ) (made : Made) → place < count → makes (range_with_len 0 place) made → MayTake makes count made place
  may_take_next count place made h now = record {
    places = range_with_len 0 place;
    made_of = now;
    share = subst (IsShare count) (range_next place) (is_share (place + 1) count (omega (arith, h)));
  }

  pub took_next : (place : ℕ) (new : Made) → makes (range_with_len 0 place ++ place ∷ []) new → makes (range_with_len 0 (place + 1)) new
  took_next place new now = subst (λ l. makes l new) (sym (range_next place)) now

  -- all were taken
  pub shared_alone : (count place : ℕ) (made : Made) (all : List Made) → place ≡ count → makes (range_with_len 0 place) made → all ≡ made ∷ [] → AreShared makes count all
  shared_alone count place made all is now e = record {
    shares = range_with_len 0 count ∷ [];
    are_shares = (is_share count count (omega arith), tt);
    whole = subst (λ l. IsPermutation l (range_with_len 0 count)) (sym (append-nil (range_with_len 0 count))) (IsPermutation-refl (range_with_len 0 count));
    given_for = subst (AllZip makes (range_with_len 0 count ∷ [])) (sym e) (subst (λ n. makes (range_with_len 0 n) made) is now, tt);
  }
