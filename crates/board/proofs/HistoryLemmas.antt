-- Beginnings of a history, and functions that change at one number.
use Rattle.std.proofs.Common.{◌≡◌, ◌≢◌, ℕ, zero, suc, ◌+◌, ◌-◌, ◌<◌, ◌≤◌, ◌⊎◌, List, [], ◌∷◌, ◌++◌, length, set, sym, refl, ap, ◌∙◌, subst, inl, inr, ⊎_elim, arith, append_assoc, length-append, get_or, replicate}
use mathlib.Core.Option.{some, some-injective, some-ne-none}
use mathlib.Core.List.{IsPrefix, append-nil}
use native.Mathlib.Decide.{ℕ_discrete}
use lib.ListN.{get_elem?}
use Rattle.atomic_table.proofs.Lists.{at_set, at_longer}
use Rattle.std.specs.Int.Bits.{bit_xor}
use Rattle.cells.specs.Tables.{Rows}
use Rattle.board.specs.Editions.{History, last_rows}

abbrev pick : {P : Type 0} → Dec P → ℕ → ℕ → ℕ
pick (yes _) a b = a
pick (no _) a b = b

pub put : (ℕ → ℕ) → ℕ → ℕ → ℕ → ℕ
put f i c j = pick (ℕ_discrete j i) c (f j)

pub put_here : (f : ℕ → ℕ) (i c : ℕ) → put f i c i ≡ c
unfolding put
put_here f i c = go (ℕ_discrete i i)
  where
    go : (d : Dec (i ≡ i)) → pick d c (f i) ≡ c
    go (yes _) = refl
    go (no n) = absurd (n refl)

pub put_else : (f : ℕ → ℕ) (i c j : ℕ) → j ≢ i → put f i c j ≡ f j
unfolding put
put_else f i c j other = go (ℕ_discrete j i)
  where
    go : (d : Dec (j ≡ i)) → pick d c (f j) ≡ f j
    go (yes e) = absurd (other e)
    go (no _) = refl

-- the side of a box is turned, with its mark beside it
pub xor_one : (p : ℕ) → p < 2 → (bit_xor p 1 ≡ 1 - p) × (bit_xor (p + 2) 1 ≡ (1 - p) + 2)
xor_one zero l = (refl, refl)
xor_one (suc zero) l = (refl, refl)
xor_one (suc (suc p)) l = absurd (omega arith)

module _ {A : Type 0} where
  pub prefix_self : (xs : List A) → IsPrefix xs xs
  prefix_self xs = ([], append-nil xs)

  pub prefix_nil : (xs : List A) → IsPrefix [] xs
  prefix_nil xs = (xs, refl)

  pub prefix_trans : (xs ys zs : List A) → IsPrefix xs ys → IsPrefix ys zs → IsPrefix xs zs
  prefix_trans xs ys zs a b = (a.0 ++ b.0, sym (append_assoc xs a.0 b.0) ∙ (ap (λ (w : List A). w ++ b.0) a.1 ∙ b.1))

  pub prefix_length : (xs ys : List A) → IsPrefix xs ys → length xs ≤ length ys
  prefix_length xs ys a = let e : length (xs ++ a.0) ≡ length ys = ap length a.1 in omega (arith, e, length-append xs a.0)

  -- of two beginnings of one list the shorter begins the longer
  pub prefix_of : (xs ys zs : List A) → IsPrefix xs zs → IsPrefix ys zs → length xs ≤ length ys → IsPrefix xs ys
  prefix_of [] ys zs a b le = (ys, refl)
  prefix_of (x ∷ xs) [] zs a b le = absurd (omega arith)
  prefix_of (x ∷ xs) (y ∷ ys) [] a b le = absurd (cc (a.1))
  prefix_of (x ∷ xs) (y ∷ ys) (z ∷ zs) a b le =
      let t = prefix_of xs ys zs (a.0, cc (a.1)) (b.0, cc (b.1)) (omega arith) in
      let heads : x ≡ y = cc (a.1, b.1) in
      (t.0, λ i. heads i ∷ t.1 i)

  -- the first k of a list
  pub front : (k : ℕ) (xs : List A) → k ≤ length xs → (t : List A) × IsPrefix t xs × (length t ≡ k)
  front zero xs le = ([], (xs, refl), refl)
  front (suc k) [] le = absurd (omega arith)
  front (suc k) (x ∷ xs) le = let r = front k xs (omega arith) in (x ∷ r.0, (r.1.0, ap (λ (w : List A). x ∷ w) r.1.1), ap suc r.2)

  pub prefix_at : (xs ys : List A) (k : ℕ) → IsPrefix xs ys → k < length xs → get_elem? ys k ≡ get_elem? xs k
  prefix_at [] ys k a l = absurd (omega arith)
  prefix_at (x ∷ xs) [] k a l = absurd (cc (a.1))
  prefix_at (x ∷ xs) (y ∷ ys) zero a l = let e : x ≡ y = cc (a.1) in ap some (sym e)
  prefix_at (x ∷ xs) (y ∷ ys) (suc k) a l = prefix_at xs ys k (a.0, cc (a.1)) (omega arith)

  pub at_more : (xs ys : List A) (k : ℕ) (x : A) → IsPrefix xs ys → get_elem? xs k ≡ some x → get_elem? ys k ≡ some x
  at_more xs ys k x a e = subst (λ (w : List A). get_elem? w k ≡ some x) a.1 (at_longer xs a.0 k x e)

  pub first_of : (xs : List A) (y : A) (ys : List A) → IsPrefix xs (y ∷ ys) → 0 < length xs → (rest : List A) × (xs ≡ y ∷ rest)
  first_of [] y ys a l = absurd (omega arith)
  first_of (x ∷ xs) y ys a l = let e : x ≡ y = cc (a.1) in (xs, λ i. e i ∷ xs)

  -- the seat that was added is the last one
  pub at_end : (l : List A) (a b : A) (j : ℕ) → get_elem? (l ++ a ∷ []) j ≡ some b → (get_elem? l j ≡ some b) ⊎ ((a ≡ b) × (j ≡ length l))
  at_end [] a b zero e = inr (some-injective a b e, refl)
  at_end [] a b (suc j) e = absurd (some-ne-none b (sym e))
  at_end (x ∷ xs) a b zero e = inl e
  at_end (x ∷ xs) a b (suc j) e = ⊎_elim inl (λ (t : (a ≡ b) × (j ≡ length xs)). inr (t.0, ap suc t.1)) (at_end xs a b j e)

  pub seats_stay : (K : ℕ → A → Type 0) (vs : List A) (me : ℕ) (w : A) → K me w → ((j : ℕ) (d : A) → j ≢ me → get_elem? vs j ≡ some d → K j d)
      → (j : ℕ) (d : A) → get_elem? (set vs me w) j ≡ some d → K j d
  seats_stay K vs me w mine others j d e = ⊎_elim (λ (t : (j ≡ me) × (w ≡ d)). subst (λ (x : ℕ × A). K x.0 x.1) (λ i. (sym t.0 i, t.1 i)) mine)
      (λ (t : (j ≢ me) × (get_elem? vs j ≡ some d)). others j d t.0 t.1) (at_set vs me j w d e)

pub last_at : (h : History) (k : ℕ) → length h ≡ k + 1 → get_elem? h k ≡ some (last_rows h)
last_at [] k e = absurd (omega arith)
last_at (x ∷ []) zero e = refl
last_at (x ∷ []) (suc k) e = absurd (omega arith)
last_at (x ∷ y ∷ ys) zero e = absurd (omega arith)
last_at (x ∷ y ∷ ys) (suc k) e = last_at (y ∷ ys) k (omega arith)

pub last_is : (h : History) (k : ℕ) (x : Rows) → length h ≡ k + 1 → get_elem? h k ≡ some x → x ≡ last_rows h
last_is h k x e is = some-injective x (last_rows h) (sym is ∙ last_at h k e)

pub last_rows_push : (h : History) (x : Rows) → last_rows (h ++ x ∷ []) ≡ x
last_rows_push [] x = refl
last_rows_push (y ∷ []) x = refl
last_rows_push (y ∷ z ∷ ys) x = last_rows_push (z ∷ ys) x

pub zeros_at : (m i : ℕ) → ◌≡◌ {A = ℕ} (get_or (replicate m 0) i 0) 0
zeros_at zero i = refl
zeros_at (suc m) zero = refl
zeros_at (suc m) (suc i) = zeros_at m i
