-- What all seats drew together.
use Rattle.std.proofs.Common.{◌≡◌, ◌≢◌, ℕ, ◌+◌, ◌<◌, true, false, cond, eqb, List, [], ◌∷◌, ◌++◌, length, take, map, min, All, refl, sym, ap, ◌∙◌, subst, arith, length-take, get_or, zero-add, length-append, eq-eqb, ne_eqb, ⊎_elim}
use Rattle.std.specs.Prelude.{Contains, Any, flat_map, IsPermutation}
use Rattle.std.specs.Cmp.{nat_eq_equiv}
use Rattle.std.specs.List.{list_any, range_with_len, IsDistinct, AllByRecursion}
use Rattle.std.proofs.lemmas.Bool.{ltb-true}
use Rattle.std.proofs.lemmas.Bool.Decides.{eqb_tells}
use Rattle.std.proofs.lemmas.List.Elements.{All-nil, All-cons, All-head, All-tail, All-take, All-weaker}
use Rattle.std.proofs.lemmas.List.FromFn.{length-range_with_len, get_or-range_with_len}
use Rattle.std.proofs.lemmas.List.Sorted.{IsPermutation-refl, IsPermutation-sym, IsPermutation-trans, IsPermutation-cons, IsPermutation-middle, IsPermutation-append_right, Contains-permutation}
use Rattle.std.proofs.lemmas.Map.Keys.{IsDistinct-head, IsDistinct-tail, IsDistinct-IsPermutation, IsDistinct-from_apart}
use Rattle.std.proofs.lemmas.Map.Views.{list_any-from_Contains}
use mathlib.Core.Option.{some, some-injective}
use lib.ListN.{get_elem?}
use Rattle.atomic_table.specs.Table.{State}
use Rattle.crew.specs.declared.law.Sight.{Sight}
use Rattle.crew.specs.Law.{Fits, Kept}
use Rattle.crew.specs.Draws.{places_from, drawn, BeginsWith}
use Rattle.crew.specs.Seats.{DealValue, SeatValue, IsSeatOf, is_finished, drawn_by, number_of, sight_of, BeginsWithAll}
use Rattle.crew.proofs.HistoryLemmas.{drawn_more}

-- the entry k goes to the seat x alone
abbrev more : ℕ → ℕ → (ℕ → List ℕ) → ℕ → List ℕ
more k x g m = cond (eqb m x) (k ∷ g m) (g m)

no_more : (k x : ℕ) (g : ℕ → List ℕ) (ns : List ℕ) → AllByRecursion (λ n. eqb x n ≡ false) ns → flat_map (more k x g) ns ≡ flat_map g ns
no_more k x g [] p = refl
no_more k x g (n ∷ ns) p =
    let other : eqb n x ≡ false = ne_eqb n x (λ e. let same = eq-eqb x n (sym e) in cc) in
    rw other (ap (λ l. g n ++ l) (no_more k x g ns p.1))

one_more : (k x : ℕ) (g : ℕ → List ℕ) (ns : List ℕ) → IsDistinct eqb ns → list_any (eqb x) ns ≡ true → IsPermutation (flat_map (more k x g) ns) (k ∷ flat_map g ns)
one_more k x g [] apart there = absurd (cc)
one_more k x g (n ∷ ns) apart there =
    ⊎_elim
    (λ (t : (eqb n x ≡ true) × (n ≡ x)).
    let rest = no_more k n g ns (IsDistinct-head eqb n ns apart) in
    let rest' = subst (λ z. flat_map (more k z g) ns ≡ flat_map g ns) t.1 rest in
    rw (t.0, rest') (IsPermutation-refl (k ∷ (g n ++ flat_map g ns))))
    (λ (t : (eqb n x ≡ false) × (n ≢ x)).
    let off : eqb x n ≡ false = ne_eqb x n (λ e. t.1 (sym e)) in
    let inside : list_any (eqb x) ns ≡ true = rw off at there in
    let ih = one_more k x g ns (IsDistinct-tail eqb n ns apart) inside in
    rw t.0 (IsPermutation-trans (g n ++ flat_map (more k x g) ns) (g n ++ (k ∷ flat_map g ns)) (k ∷ (g n ++ flat_map g ns)) (IsPermutation-append_right (g n) _ _ ih) (IsPermutation-middle (g n) k (flat_map g ns))))
    (eqb_tells n x)

none_drawn : (k : ℕ) (ns : List ℕ) → flat_map (λ m. places_from k m []) ns ≡ []
none_drawn k [] = refl
none_drawn k (n ∷ ns) = none_drawn k ns

-- each place is drawn by one seat
pub all_places : (k : ℕ) (ns log : List ℕ) → IsDistinct eqb ns → All (λ x. list_any (eqb x) ns ≡ true) log → IsPermutation (flat_map (λ m. places_from k m log) ns) (range_with_len k (length log))
all_places k ns [] apart known = rw (none_drawn k ns) (IsPermutation-refl [])
all_places k ns (x ∷ log) apart known =
    let P : ℕ → Type 0 = λ y. list_any (eqb y) ns ≡ true in
    let ih = all_places (k + 1) ns log apart (All-tail P x log known) in
    IsPermutation-trans (flat_map (λ m. places_from k m (x ∷ log)) ns) (k ∷ flat_map (λ m. places_from (k + 1) m log) ns) (k ∷ range_with_len (k + 1) (length log))
    (one_more k x (λ m. places_from (k + 1) m log) ns apart (All-head P x log known)) (IsPermutation-cons k _ _ ih)

distinct_range : (n : ℕ) → IsDistinct eqb (range_with_len 0 n)
distinct_range n =
    IsDistinct-from_apart eqb (range_with_len 0 n)
    (λ i j d low high.
    let len = length-range_with_len 0 n in
    let a = get_or-range_with_len 0 n i d (omega arith) in
    let b = get_or-range_with_len 0 n j d (omega arith) in
    ne_eqb (get_or (range_with_len 0 n) i d) (get_or (range_with_len 0 n) j d) (λ e. omega arith))

flips : (x y : ℕ) → eqb x y ≡ eqb y x
flips = nat_eq_equiv.symm

-- each number below n is one of these
covers : (n : ℕ) (ns : List ℕ) → IsPermutation ns (range_with_len 0 n) → (x : ℕ) → x < n → list_any (eqb x) ns ≡ true
covers n ns perm x small =
    let there : Contains (range_with_len 0 n) x = (x, rw (length-range_with_len 0 n) small, get_or-range_with_len 0 n x x small ∙ zero-add x) in
    list_any-from_Contains nat_eq_equiv x ns (Contains-permutation (range_with_len 0 n) ns x (IsPermutation-sym ns (range_with_len 0 n) perm) there)

by_number : (d : DealValue) (history : List ℕ) (seats : List SeatValue) → All (IsSeatOf d) seats → BeginsWithAll history seats → flat_map drawn_by seats ≡ flat_map (λ m. places_from 0 m (take d.pieces history)) (map number_of seats)
by_number d history [] ours starts = refl
by_number d history (s ∷ ss) ours starts =
    let B : SeatValue → Type 0 = λ s. BeginsWith history s.number s.seen in
    let b = All-head B s ss starts in
    let pieces = (All-head (IsSeatOf d) s ss ours).pieces in
    let mine : drawn_by s ≡ drawn d.pieces s.number history = ap (λ n. drawn n s.number s.seen) pieces ∙ (sym (drawn_more d.pieces s.number s.seen b.rest b.no_other) ∙ ap (drawn d.pieces s.number) (sym b.is)) in
    λ i. mine i ++ by_number d history ss (All-tail (IsSeatOf d) s ss ours) (All-tail B s ss starts) i

-- the seats' draws are the numbers below, each once and none left out
pub together : (d : DealValue) (seats : List SeatValue) (history : List ℕ) → All (IsSeatOf d) seats → IsPermutation (map number_of seats) (range_with_len 0 d.seats) → BeginsWithAll history seats → All (λ x. x < d.seats) history
    → IsPermutation (flat_map drawn_by seats) (range_with_len 0 (min (length history) d.pieces))
together d seats history ours perm starts small =
    let ns = map number_of seats in
    let log = take d.pieces history in
    let apart = IsDistinct-IsPermutation eqb flips (range_with_len 0 d.seats) ns (IsPermutation-sym ns (range_with_len 0 d.seats) perm) (distinct_range d.seats) in
    let known : All (λ x. list_any (eqb x) ns ≡ true) log = All-weaker (λ x. x < d.seats) (λ x. list_any (eqb x) ns ≡ true) (covers d.seats ns perm) log (All-take (λ x. x < d.seats) d.pieces history small) in
    let count : min (length history) d.pieces ≡ length log = omega (arith, length-take d.pieces history) in
    rw (by_number d history seats ours starts, count) (all_places 0 ns log apart known)

unmap : {X Y : Type 0} (P : Y → Type 0) (f : X → Y) (xs : List X) → All P (map f xs) → All (λ x. P (f x)) xs
unmap P f [] all = All-nil (λ x. P (f x))
unmap P f (x ∷ xs) all = All-cons (λ x. P (f x)) x xs (All-head P (f x) (map f xs) all) (unmap P f xs (All-tail P (f x) (map f xs) all))

-- what the last state tells of a deal's seats, where `draws` draws were made
pub record Ended (deal : DealValue) (seats : List SeatValue) (draws : ℕ) : Type 0 where
  pub history : List ℕ
  pub begins : BeginsWithAll history seats
  pub counts : draws ≡ length history
  pub together : IsPermutation (flat_map drawn_by seats) (range_with_len 0 (min (length history) deal.pieces))

-- it tells so much where one token has all sights
pub ended : {S : Type 0} (d : DealValue) (seats : List SeatValue) (pieces count id : ℕ) (view : List Sight) (words : List ℕ) (draws : ℕ) (t : State S (List Sight))
    → pieces ≡ d.pieces → count ≡ d.seats → All (IsSeatOf d) seats → IsPermutation (map number_of seats) (range_with_len 0 d.seats) → view ≡ map sight_of seats
    → Kept pieces count t → get_elem? t.views id ≡ some view → t.words ≡ words → get_elem? words 0 ≡ some draws
    → Ended d seats draws
ended {S = S} d seats pieces count id view words draws t same_pieces same_count ours perm known kept at same read =
    let r : Kept {S = S} d.pieces d.seats t = subst (λ n. Kept {S = S} n d.seats t) same_pieces (subst (λ n. Kept {S = S} pieces n t) same_count kept) in
    let F : Sight → Type 0 = Fits d.seats r.history r.owner id in
    let all : All F (map sight_of seats) = subst (All F) known (r.each id view at) in
    let begins : BeginsWithAll r.history seats = All-weaker (λ s. F (sight_of s)) (λ s. BeginsWith r.history s.number s.seen) (λ s f. f.begins) seats (unmap F sight_of seats all) in
    let found : length r.history ≡ draws = some-injective _ _ (ap (λ l. get_elem? l 0) (sym r.counts ∙ same) ∙ read) in
    record { history = r.history; begins = begins; counts = sym found; together = together d seats r.history ours perm begins r.small }

-- the pieces that were drawn, under the number that a closed deal tells
pub drawn_together : (d : DealValue) (seats : List SeatValue) (draws told : ℕ) → (e : Ended d seats draws) → told ≡ min (length e.history) d.pieces → IsPermutation (flat_map drawn_by seats) (range_with_len 0 told)
drawn_together d seats draws told e count = rw count e.together

-- where some seat is finished, all pieces are drawn
pub all_drawn : (d : DealValue) (seats : List SeatValue) (draws told : ℕ) → (e : Ended d seats draws) → All (IsSeatOf d) seats → told ≡ min (length e.history) d.pieces → Any (λ s. is_finished s ≡ true) seats → told ≡ d.pieces
all_drawn d seats draws told e ours count one =
    let k = one.0 in
    let s : SeatValue = one.1 in
    let b : BeginsWith e.history s.number s.seen = subst (λ (x : SeatValue). BeginsWith e.history x.number x.seen) one.3 (e.begins k s one.2) in
    let pieces : s.pieces ≡ d.pieces = (subst (IsSeatOf d) one.3 (ours k s one.2)).pieces in
    let past = ltb-true s.pieces (length s.seen) one.4 in
    let long = ap length b.is ∙ length-append s.seen b.rest in
    omega arith
