-- Rows that a test keeps move as the rows do.
use Rattle.std.proofs.Common.{◌<◌, ℕ, zero, suc, Bool, true, false, List, [], ◌∷◌, cond, filter, get_or, length, set, arith}
use Rattle.std.specs.List.{swap}
use Rattle.std.specs.List.Sorted.{IsPermutation}
use Rattle.std.proofs.lemmas.List.Sorted.{IsPermutation-append_comm, IsPermutation-append_left, IsPermutation-cons, IsPermutation-keeps, IsPermutation-refl, IsPermutation-trans}

module _ {X : Type 0} where
  behind : (b : Bool) (x : X) (l m : List X) → IsPermutation l m → IsPermutation (cond b (x ∷ l) l) (cond b (x ∷ m) m)
  behind true x l m p = IsPermutation-cons x l m p
  behind false x l m p = p

  two_turn : (a b : Bool) (x y : X) (l : List X) → IsPermutation (cond a (x ∷ cond b (y ∷ l) l) (cond b (y ∷ l) l)) (cond b (y ∷ cond a (x ∷ l) l) (cond a (x ∷ l) l))
  two_turn true true x y l = IsPermutation-append_left l (x ∷ y ∷ []) (y ∷ x ∷ []) (IsPermutation-append_comm (x ∷ []) (y ∷ []))
  two_turn true false x y l = IsPermutation-refl _
  two_turn false true x y l = IsPermutation-refl _
  two_turn false false x y l = IsPermutation-refl _

module _ {X : Type 0} (test : X → Bool) where
  -- what the test keeps of one list moves to what it keeps of the other
  record KeepsSame (xs ys : List X) : Type 0 where
    moves : IsPermutation (filter test xs) (filter test ys)

  itself : (l : List X) → KeepsSame l l
  itself l = record { moves = IsPermutation-refl (filter test l) }

  after : (x : X) (l m : List X) → KeepsSame l m → KeepsSame (x ∷ l) (x ∷ m)
  after x l m p = record { moves = behind (test x) x (filter test l) (filter test m) p.moves }

  turned : (x y : X) (l : List X) → KeepsSame (x ∷ y ∷ l) (y ∷ x ∷ l)
  turned x y l = record { moves = two_turn (test x) (test y) x y (filter test l) }

  chain : {l m n : List X} → KeepsSame l m → KeepsSame m n → KeepsSame l n
  chain {l = l} {m = m} {n = n} p q = record { moves = IsPermutation-trans (filter test l) (filter test m) (filter test n) p.moves q.moves }

  -- the first element and a later one in each other's place
  with_later : (l : List X) (j : ℕ) (x d : X) → j < length l → KeepsSame (x ∷ l) (get_or l j d ∷ set l j x)
  with_later [] j x d h = absurd (omega arith)
  with_later (y ∷ l) zero x d h = turned x y l
  with_later (y ∷ l) (suc j) x d h =
      chain (turned x y l) (chain (after y _ _ (with_later l j x d (omega arith))) (turned y (get_or l j d) (set l j x)))

  exchanged : (l : List X) (i j : ℕ) (d : X) → i < length l → j < length l → KeepsSame l (set (set l i (get_or l j d)) j (get_or l i d))
  exchanged [] i j d h k = absurd (omega arith)
  exchanged (x ∷ l) zero zero d h k = itself (x ∷ l)
  exchanged (x ∷ l) zero (suc j) d h k = with_later l j x d (omega arith)
  exchanged (x ∷ l) (suc i) zero d h k = with_later l i x d (omega arith)
  exchanged (x ∷ l) (suc i) (suc j) d h k = after x _ _ (exchanged l i j d (omega arith) (omega arith))

  swapped : (l : List X) (i j : ℕ) → i < length l → j < length l → KeepsSame l (swap l i j)
  swapped [] i j h k = itself []
  swapped (x ∷ l) i j h k = exchanged (x ∷ l) i j x h k

  pub filter_any_order : (xs ys : List X) → IsPermutation xs ys → IsPermutation (filter test xs) (filter test ys)
  filter_any_order xs ys p =
      let same : KeepsSame xs ys = IsPermutation-keeps xs (KeepsSame xs) (itself xs) (λ l i j h k q. chain q (swapped l i j h k)) ys p in
      same.moves
