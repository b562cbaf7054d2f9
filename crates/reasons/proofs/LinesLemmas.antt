-- The first line of a text.
use Rattle.std.proofs.Common.{◌∙◌, arith, refl, subst, sym}
use Rattle.std.proofs.lemmas.Bool.Decides.{nat_tests}
use Rattle.std.proofs.lemmas.List.{take_rest}
use Rattle.std.proofs.lemmas.List.Splits.{slice_split_first}
use Rattle.std.specs.Borrow.{Bor}
use Rattle.std.specs.List.{onto_first, position, position_or_len}
use Rattle.std.specs.Prelude.{◌≡◌, ◌==◌, ◌<◌, ◌≤◌, ◌+◌, ◌-◌, ℕ, zero, suc, Bool, true, false, cond, List, [], ◌∷◌, Some, None, drop, length, map, nat_lt, not, slice_index_or, take}
use Rattle.std.specs.Str.Lines.{strip_carriage_return}
use Rattle.reasons.specs.Books.{between_ends, line_at, line_numbered}

first_place : (a n at : ℕ) → cond (nat_lt a n) (Some a) None ≡ Some at → (a < n) × (a ≡ at)
first_place a n at e = grind (arith, nat_tests)

no_place : (a n : ℕ) → cond (nat_lt a n) (Some a) None ≡ None → n ≤ a
no_place a n e = grind (arith, nat_tests)

pub first_end : (bs : List ℕ) (at : ℕ) → position (λ b. b == 10) bs ≡ Some at
    → between_ends bs ≡ take at bs ∷ between_ends (take (length bs - (at + 1)) (drop (at + 1) bs))
first_end bs at e =
    let p = first_place (position_or_len (λ b. b == 10) bs) (length bs) at e in
    rw (take_rest, ← p.1) (slice_split_first (λ b. b == 10) bs 0 p.0)

no_cut : (b : Bool) (x : ℕ) (xs : List ℕ) (n : ℕ) (parts : List (List ℕ)) → length (x ∷ xs) ≤ cond (not b) (1 + n) 0 → (length xs ≤ n → parts ≡ xs ∷ [])
    → cond b ([] ∷ parts) (onto_first x parts) ≡ (x ∷ xs) ∷ []
no_cut true x xs n parts h more = absurd (omega arith)
no_cut false x xs n parts h more = rw (more (omega arith)) refl

one_line : (bs : List ℕ) → length bs ≤ position_or_len (λ b. b == 10) bs → between_ends bs ≡ bs ∷ []
one_line [] h = refl
one_line (x ∷ xs) h = no_cut (x == 10) x xs (position_or_len (λ b. b == 10) xs) _ h (one_line xs)

pub no_end : (bs : List ℕ) → position (λ b. b == 10) bs ≡ None → between_ends bs ≡ bs ∷ []
no_end bs e = one_line bs (no_place _ _ e)

-- ---- the line of a number

past : (lines : List (Bor (List ℕ))) (place : ℕ) → length lines ≤ place → [] ≡ line_at (map (λ l. l.now) lines) place
past [] place h = refl
past (l ∷ later) zero h = absurd (omega arith)
past (l ∷ later) (suc place) h = past later place (omega (arith, h))

last : (lines : List (Bor (List ℕ))) (place : ℕ) (d : Bor (List ℕ)) → suc place ≡ length lines → (slice_index_or lines place d).now ≡ line_at (map (λ l. l.now) lines) place
last [] place d e = absurd (omega (arith, e))
last (l ∷ []) zero d e = refl
last (l ∷ m ∷ later) zero d e = absurd (omega (arith, e))
last (l ∷ later) (suc place) d e = last later place d (omega (arith, e))

inner : (lines : List (Bor (List ℕ))) (place : ℕ) (d : Bor (List ℕ)) → suc place < length lines → strip_carriage_return (slice_index_or lines place d).now ≡ line_at (map (λ l. l.now) lines) place
inner [] place d h = absurd (omega arith)
inner (l ∷ []) place d h = absurd (omega arith)
inner (l ∷ m ∷ later) zero d h = refl
inner (l ∷ m ∷ later) (suc place) d h = inner (m ∷ later) place d (omega (arith, h))

pub past_number : (lines : List (Bor (List ℕ))) (n : ℕ) → length lines < n → [] ≡ line_numbered (map (λ l. l.now) lines) n
past_number lines zero h = refl
past_number lines (suc place) h = past lines place (omega (arith, h))

pub last_number : (lines : List (Bor (List ℕ))) (n place : ℕ) (d : Bor (List ℕ)) → n ≡ suc place → n ≡ length lines → (slice_index_or lines place d).now ≡ line_numbered (map (λ l. l.now) lines) n
last_number lines n place d is e =
    let P : ℕ → Type 0 = λ m. (slice_index_or lines place d).now ≡ line_numbered (map (λ l. l.now) lines) m in
    subst P (sym is) (last lines place d (sym is ∙ e))

pub inner_number : (lines : List (Bor (List ℕ))) (n place : ℕ) (d : Bor (List ℕ)) → n ≡ suc place → n < length lines → strip_carriage_return (slice_index_or lines place d).now ≡ line_numbered (map (λ l. l.now) lines) n
inner_number lines n place d is h =
    let P : ℕ → Type 0 = λ m. strip_carriage_return (slice_index_or lines place d).now ≡ line_numbered (map (λ l. l.now) lines) m in
    subst P (sym is) (inner lines place d (omega (arith, is, h)))
