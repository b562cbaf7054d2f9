-- What a draw does to the numbers of a seat, and the seats of a new deal.
use Rattle.std.proofs.Common.{◌≡◌, ℕ, ◌+◌, ◌-◌, ◌<◌, List, [], ◌∷◌, ◌++◌, length, take, drop, All, refl, sym, ap, ◌∙◌, arith, add-one}
use Rattle.std.specs.Prelude.{◌≤◌, map, IsPermutation, Option, option_to_list}
use Rattle.std.specs.List.{range_with_len}
use Rattle.std.proofs.lemmas.List.{length-map}
use Rattle.std.proofs.lemmas.List.FromFn.{length-range_with_len}
use Rattle.std.proofs.lemmas.List.Sorted.{length_permutation}
use Rattle.std.proofs.lemmas.List.Elements.{All-head, All-tail, All-same, All-weaker}
use Rattle.atomic_table.specs.Seated.{TableId}
use Rattle.crew.specs.declared.law.Sight.{Sight}
use Rattle.crew.specs.Law.{sight, fresh}
use Rattle.crew.specs.Seats.{DealValue, SeatValue, IsSeatOf, DrawsOnce, drawn_by, number_of}
use Rattle.crew.proofs.HistoryLemmas.{drawn_next}

-- a draw adds what it gets to the pieces that the seat drew
pub drawn_once : (before : SeatValue) (answer : Option ℕ) (after : SeatValue) → DrawsOnce before answer after → drawn_by after ≡ drawn_by before ++ option_to_list answer
drawn_once s r t d = rw (d.sees, d.gets) (drawn_next s.pieces s.number s.seen d.history d.begins)

-- one seat less to hand out
pub fresh_more : (k n : ℕ) → k < n → fresh k (n - k) ≡ sight k [] ∷ fresh (k + 1) (n - (k + 1))
fresh_more k n h = let e : n - k ≡ (n - (k + 1)) + 1 = omega arith in rw (e, add-one) refl

-- what a token is given, and what stays
pub given_one : (v : List Sight) (k n : ℕ) → k < n → v ≡ fresh k (n - k) → (take 1 v ≡ sight k [] ∷ []) × (drop 1 v ≡ fresh (k + 1) (n - (k + 1)))
given_one v k n h is = let e = is ∙ fresh_more k n h in (ap (take 1) e, ap (drop 1) e)

-- of seats at one table, the first and the rest
pub one_table : (table : TableId) (all : List SeatValue) (s : SeatValue) (rest : List SeatValue) → all ≡ s ∷ rest → All (λ (s : SeatValue). s.table ≡ table) all → (s.table ≡ table) × All (λ (s : SeatValue). s.table ≡ table) rest
one_table table all s rest is ours =
    let P : SeatValue → Type 0 = λ s. s.table ≡ table in
    let here = All-same P (s ∷ rest) all (sym is) ours in
    (All-head P s rest here, All-tail P s rest here)

-- all seats of a deal are of its table, and there is one at least
pub at_the_table : (d : DealValue) (table : TableId) (seats : List SeatValue) → d.table ≡ table → 1 ≤ d.seats → All (IsSeatOf d) seats → IsPermutation (map number_of seats) (range_with_len 0 d.seats)
    → (1 ≤ length seats) × All (λ (s : SeatValue). s.table ≡ table) seats
at_the_table d table seats is some_seats ours perm =
    let as_many = sym (length_permutation (map number_of seats) (range_with_len 0 d.seats) perm) ∙ length-range_with_len 0 d.seats in
    (omega (arith, as_many, length-map seats number_of), All-weaker (IsSeatOf d) (λ (s : SeatValue). s.table ≡ table) (λ s here. here.table ∙ is) seats ours)
