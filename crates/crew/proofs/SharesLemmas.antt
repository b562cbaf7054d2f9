-- What all workers hand back together.
use Rattle.std.proofs.Common.{◌≡◌, ℕ, ◌+◌, ◌<◌, ◌≤◌, true, List, [], ◌∷◌, ◌++◌, length, map, All, refl, sym, ap, ◌∙◌, subst, arith}
use Rattle.std.specs.Prelude.{Any, flat_map, IsPermutation, Result, Ok, IfOk, OnOk}
use Rattle.std.specs.List.{AllByRecursion, AllZip, concat, range_with_len}
use Rattle.std.proofs.lemmas.List.Elements.{All-map, All-head, All-tail, All-nil, All-cons}
use Rattle.std.proofs.lemmas.List.Sorted.{IsPermutation-refl}
use Rattle.crew.specs.Draws.{PlacesRise}
use Rattle.crew.specs.Seats.{DealValue, SeatValue, IsSeatOf, drawn_by, is_finished, number_of}
use Rattle.crew.specs.Shares.{AreShared}
use Rattle.crew.specs.Tasks.{IsShare}
use Rattle.cells.specs.declared.refused.Refused.{Refused}
use Rattle.crew.specs.Works.{AllNumbered, AreBack, IsBack, given_of, seat_of}
use Rattle.crew.specs.declared.worker.Worked.{Worked}

module _ {Made : Type 0} (deal : DealValue) (makes : List ℕ → Made → Type 0) where
  -- what comes back, whatever its number
  record IsDone (back : Worked Made) : Type 0 where
    pub ours : IsSeatOf deal back.seat
    pub finished : OnOk back.given (is_finished back.seat ≡ true)
    pub given : IfOk back.given (makes (drawn_by back.seat))

  all_done : (from : ℕ) (all : List (Worked Made)) → AllNumbered (IsBack deal makes) from all → All IsDone all
  all_done from [] back = All-nil IsDone
  all_done from (w ∷ ws) back = All-cons IsDone w ws (record { ours = back.0.ours; finished = back.0.finished; given = back.0.given }) (all_done (from + 1) ws back.1)

  numbers_from : (from : ℕ) (all : List (Worked Made)) → AllNumbered (IsBack deal makes) from all → map number_of (map seat_of all) ≡ range_with_len from (length all)
  numbers_from from [] back = refl
  numbers_from from (w ∷ ws) back =
      let rest = numbers_from (from + 1) ws back.1 in
      λ i. back.0.same i ∷ rest i

  pub seats_ours : (seats : List SeatValue) (given : List (Result Made Refused)) → AreBack deal makes seats given → All (IsSeatOf deal) seats
  seats_ours seats given back =
      subst (All (IsSeatOf deal)) (sym back.seats_are) (All-map (IsSeatOf deal) seat_of back.all (λ i other h. (all_done 0 back.all back.each i other h).ours))

  pub numbers : (seats : List SeatValue) (given : List (Result Made Refused)) → AreBack deal makes seats given → IsPermutation (map number_of seats) (range_with_len 0 deal.seats)
  numbers seats given back =
      let is : map number_of seats ≡ range_with_len 0 deal.seats = ap (map number_of) back.seats_are ∙ (numbers_from 0 back.all back.each ∙ ap (range_with_len 0) back.many) in
      rw is (IsPermutation-refl (range_with_len 0 deal.seats))

  some_finished : (all : List (Worked Made)) (given : List Made) → All IsDone all → map given_of all ≡ map Ok given → 0 < length all → Any (λ seat. is_finished seat ≡ true) (map seat_of all)
  some_finished [] given done is some_there = absurd (omega arith)
  some_finished (w ∷ ws) [] done is some_there = absurd (cc)
  some_finished (w ∷ ws) (g ∷ gs) done is some_there =
      let here : w.given ≡ Ok g = cc in
      (0, w.seat, omega arith, refl, subst (λ r. OnOk r (is_finished w.seat ≡ true)) here (All-head IsDone w ws done).finished)

  abbrev shares : List (Worked Made) → List (List ℕ)
  shares all = map drawn_by (map seat_of all)

  together : (seats : List SeatValue) → concat (map drawn_by seats) ≡ flat_map drawn_by seats
  together [] = refl
  together (s ∷ ss) = ap (λ l. drawn_by s ++ l) (together ss)

  -- what the results give, one by one
  each : (all : List (Worked Made)) (given : List Made) → All IsDone all → map given_of all ≡ map Ok given → AllZip makes (shares all) given
  each [] [] done is = tt
  each [] (g ∷ gs) done is = absurd (cc)
  each (w ∷ ws) [] done is = absurd (cc)
  each (w ∷ ws) (g ∷ gs) done is =
      let here : w.given ≡ Ok g = cc in
      let rest : map given_of ws ≡ map Ok gs = cc in
      (subst (λ r. IfOk r (makes (drawn_by w.seat))) here (All-head IsDone w ws done).given, each ws gs (All-tail IsDone w ws done) rest)

  -- what seats draw are shares, where their pieces rise and are below the number of pieces
  module _ (rising : (s : SeatValue) → PlacesRise (drawn_by s)) (below : (s : SeatValue) → AllByRecursion (λ piece. piece < s.pieces) (drawn_by s)) where
    all_shares : (all : List (Worked Made)) → All IsDone all → AllByRecursion (IsShare deal.pieces) (shares all)
    all_shares [] done = tt
    all_shares (w ∷ ws) done =
        let pieces = (All-head IsDone w ws done).ours.pieces in
        (record { rising = rising w.seat; below = subst (λ n. AllByRecursion (λ piece. piece < n) (drawn_by w.seat)) pieces (below w.seat) }, all_shares ws (All-tail IsDone w ws done))

    -- all was drawn, so that all is shared
    pub shared : (seats : List SeatValue) (results : List (Result Made Refused)) (given : List Made) (drawn : ℕ) → AreBack deal makes seats results → results ≡ map Ok given → 1 ≤ deal.seats
        → (Any (λ seat. is_finished seat ≡ true) seats → drawn ≡ deal.pieces) → IsPermutation (flat_map drawn_by seats) (range_with_len 0 drawn)
        → AreShared makes deal.pieces given
    shared seats results given drawn back is some_seat full whole =
        let all = back.all in
        let done = all_done 0 all back.each in
        let all_given : map given_of all ≡ map Ok given = sym back.given_are ∙ is in
        let finished = subst (Any (λ seat. is_finished seat ≡ true)) (sym back.seats_are) (some_finished all given done all_given (omega (arith, back.many))) in
        let everything : drawn ≡ deal.pieces = full finished in
        let these = subst (λ l. IsPermutation (flat_map drawn_by l) (range_with_len 0 drawn)) back.seats_are whole in
        record {
          shares = shares all;
          are_shares = all_shares all done;
          whole = subst (IsPermutation (concat (shares all))) (ap (range_with_len 0) everything) (subst (λ l. IsPermutation l (range_with_len 0 drawn)) (sym (together (map seat_of all))) these);
          given_for = each all given done all_given;
        }
