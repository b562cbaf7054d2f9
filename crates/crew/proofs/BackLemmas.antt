-- Seats that come back one after another, each with what was given at it.
use Rattle.std.proofs.Common.{◌≡◌, ℕ, List, [], ◌∷◌, ◌++◌, length, map, refl, sym, ap, ◌∙◌, subst, arith}
use Rattle.std.proofs.lemmas.List.{length-map, map_push}
use Rattle.std.specs.Prelude.{Result}
use Rattle.cells.specs.declared.refused.Refused.{Refused}
use Rattle.crew.specs.Seats.{DealValue, SeatValue}
use Rattle.crew.specs.Works.{AllNumbered, AreBack, IsBack, given_of, seat_of}
use Rattle.crew.specs.declared.worker.Worked.{Worked}
use Rattle.crew.proofs.ListsLemmas.{added}

module _ {Made : Type 0} (deal : DealValue) (makes : List ℕ → Made → Type 0) where
  -- the first seats of the deal, in the order of their numbers, and what was given at each
  pub record Reached (seats : List SeatValue) (given : List (Result Made Refused)) : Type 0 where
    pub all : List (Worked Made)
    pub seats_are : seats ≡ map seat_of all
    pub given_are : given ≡ map given_of all
    pub each : AllNumbered (IsBack deal makes) 0 all

  pub reached_none : (seats : List SeatValue) (given : List (Result Made Refused)) → seats ≡ [] → given ≡ [] → Reached seats given
  reached_none seats given no_seats no_given = record { all = []; seats_are = no_seats; given_are = no_given; each = tt }

  pub reached_more : (seats new_seats : List SeatValue) (given new_given : List (Result Made Refused)) (back : Worked Made) → new_seats ≡ seats ++ back.seat ∷ [] → new_given ≡ given ++ back.given ∷ []
      → Reached seats given → IsBack deal makes (length seats) back → Reached new_seats new_given
  reached_more seats new_seats given new_given back more_seats more_given old is =
      let long : length seats ≡ length old.all = ap length old.seats_are ∙ length-map old.all seat_of in
      record {
        all = old.all ++ back ∷ [];
        seats_are = more_seats ∙ (ap (λ l. l ++ back.seat ∷ []) old.seats_are ∙ sym (map_push seat_of old.all back));
        given_are = more_given ∙ (ap (λ l. l ++ back.given ∷ []) old.given_are ∙ sym (map_push given_of old.all back));
        each = added (IsBack deal makes) old.all (old.all ++ back ∷ []) back refl old.each (subst (λ n. IsBack deal makes n back) long is);
      }
