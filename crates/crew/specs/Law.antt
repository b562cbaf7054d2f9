-- The rule of the deal's word: it counts the draws of one history, which begins with what each seat has seen. Each draw
-- takes the next number by one fetch-and-add, as a ticket (Gottlieb, Lubachevsky and Rudolph, 1983).
use Rattle.std.specs.Prelude.{◌≡◌, ℕ, zero, suc, ◌+◌, ◌<◌, eqb, List, [], ◌∷◌, ◌++◌, length, drop, All}
use Rattle.std.specs.List.{IsDistinct}
use mathlib.Core.Option.{some}
use lib.ListN.{get_elem?}
use Rattle.atomic_table.specs.Table.{State}
use Rattle.crew.specs.declared.law.Sight.{Sight}
use Rattle.crew.specs.Draws.{BeginsWith}

abbrev pub sight : ℕ → List ℕ → Sight
sight seat seen = record { seat = seat; seen = seen }

-- the sights of so many seats that have seen nothing, numbered from `seat` on
abbrev pub fresh : ℕ → ℕ → List Sight
fresh seat zero = []
fresh seat (suc count) = sight seat [] ∷ fresh (seat + 1) count

-- the sight of a token that has one
abbrev pub only : List Sight → Sight
only [] = sight 0 []
only (s ∷ ss) = s

-- a draw finds how many draws there were, and the seat has then seen them and its own
pub record Drew (before : Sight) (found : ℕ) (after : List Sight) : Type 0 where
  pub history : List ℕ
  pub begins : BeginsWith history before.seat before.seen
  pub counts : found ≡ length history
  pub sees : after ≡ sight before.seat (history ++ before.seat ∷ []) ∷ []

-- what the rule says of a sight that the token has: no other token has one of this seat, and the history begins with it
pub record Fits (seats : ℕ) (history : List ℕ) (owner : ℕ → ℕ) (token : ℕ) (s : Sight) : Type 0 where
  pub owned : owner s.seat ≡ token
  pub small : s.seat < seats
  pub begins : BeginsWith history s.seat s.seen

-- the word counts the draws of the history, each by a seat of the deal, and behind the last piece each seat draws at most
-- once, so that the count never wraps
pub record Kept {S : Type 0} (pieces seats : ℕ) (s : State S (List Sight)) : Type 0 where
  pub history : List ℕ
  pub owner : ℕ → ℕ
  pub counts : s.words ≡ length history ∷ []
  pub small : All (λ seat. seat < seats) history
  pub late : IsDistinct eqb (drop pieces history)
  pub each : (token : ℕ) (view : List Sight) → get_elem? s.views token ≡ some view → All (Fits seats history owner token) view
