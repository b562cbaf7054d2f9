-- Facts about histories.
use Rattle.std.proofs.Common.{◌≡◌, ◌≢◌, ℕ, zero, suc, ◌+◌, ◌-◌, ◌≤◌, Bool, true, false, cond, eqb, ◌||◌, List, [], ◌∷◌, ◌++◌, length, take, drop, refl, sym, ap, ◌∙◌, subst, arith, length-append, append-nil, add-zero, zero-add, ne_eqb, eq-eqb}
use Rattle.std.proofs.Math.Nat.{zero-sub, sub-zero}
use mathlib.Core.Logic.{dite}
use native.Mathlib.Decide.{dec_lt}
use Rattle.std.proofs.lemmas.Bool.{lt-ltb, le-ltb}
use Rattle.std.proofs.lemmas.List.{take_all, take-append-le}
use Rattle.std.specs.List.{list_any}
use Rattle.std.proofs.lemmas.List.Folds.{list_any-append}
use Rattle.std.specs.Prelude.{option_to_list}
use Rattle.crew.specs.Draws.{BeginsWith, IsAbsent, places_from, drawn, draw_at}

or_false : (a b : Bool) → (a || b) ≡ false → (a ≡ false) × (b ≡ false)
or_false true b e = absurd (cc)
or_false false b e = (refl, e)

pub absent_append : (s : ℕ) (xs ys : List ℕ) → IsAbsent s xs → IsAbsent s ys → IsAbsent s (xs ++ ys)
absent_append s xs ys p q = list_any-append (eqb s) xs ys ∙ (rw p q)

pub absent_drop : (s n : ℕ) (xs : List ℕ) → IsAbsent s xs → IsAbsent s (drop n xs)
absent_drop s zero xs p = p
absent_drop s (suc n) [] p = p
absent_drop s (suc n) (x ∷ xs) p = absent_drop s n xs (or_false (eqb s x) (list_any (eqb s) xs) p).1

-- what a seat has not seen has no entry of it; nor has what came late, where it has seen no more than n
pub absent_late : (s n : ℕ) (seen rest : List ℕ) → length seen ≤ n → IsAbsent s rest → IsAbsent s (drop n (seen ++ rest))
absent_late s n [] rest h p = absent_drop s n rest p
absent_late s zero (x ∷ seen) rest h p = absurd (omega arith)
absent_late s (suc n) (x ∷ seen) rest h p = absent_late s n seen rest (omega arith) p

pub absent_one : (s t : ℕ) → s ≢ t → IsAbsent s (t ∷ [])
absent_one s t ne = rw (ne_eqb s t ne) refl

cons_if_append : (b : Bool) (k : ℕ) (ms xs ys : List ℕ) → ms ≡ xs ++ ys → cond b (k ∷ ms) ms ≡ cond b (k ∷ xs) xs ++ ys
cons_if_append true k ms xs ys e = ap (λ l. k ∷ l) e
cons_if_append false k ms xs ys e = e

pub places_append : (k s : ℕ) (xs ys : List ℕ) → places_from k s (xs ++ ys) ≡ places_from k s xs ++ places_from (k + length xs) s ys
places_append k s [] ys = rw add-zero refl
places_append k s (x ∷ xs) ys =
    let e : k + 1 + length xs ≡ k + suc (length xs) = omega arith in
    let more = subst (λ z. places_from (k + 1) s (xs ++ ys) ≡ places_from (k + 1) s xs ++ places_from z s ys) e (places_append (k + 1) s xs ys) in
    cons_if_append (eqb s x) k (places_from (k + 1) s (xs ++ ys)) (places_from (k + 1) s xs) (places_from (k + suc (length xs)) s ys) more

pub places_absent : (k s : ℕ) (xs : List ℕ) → IsAbsent s xs → places_from k s xs ≡ []
places_absent k s [] p = refl
places_absent k s (x ∷ xs) p = let o = or_false (eqb s x) (list_any (eqb s) xs) p in rw o.0 (places_absent (k + 1) s xs o.1)

pub absent_take : (s n : ℕ) (xs : List ℕ) → IsAbsent s xs → IsAbsent s (take n xs)
absent_take s zero xs p = refl
absent_take s (suc n) [] p = refl
absent_take s (suc n) (x ∷ xs) p = let o = or_false (eqb s x) (list_any (eqb s) xs) p in rw o.0 (absent_take s n xs o.1)

take_append : (n : ℕ) (xs ys : List ℕ) → take n (xs ++ ys) ≡ take n xs ++ take (n - length xs) ys
take_append zero xs ys = rw (zero-sub (length xs)) refl
take_append (suc n) [] ys = rw sub-zero refl
take_append (suc n) (x ∷ xs) ys = let e : suc n - suc (length xs) ≡ n - length xs = omega arith in rw e (ap (λ l. x ∷ l) (take_append n xs ys))

-- what others drew adds nothing to the numbers of a seat
pub drawn_more : (n s : ℕ) (seen rest : List ℕ) → IsAbsent s rest → drawn n s (seen ++ rest) ≡ drawn n s seen
drawn_more n s seen rest p =
    ap (places_from 0 s) (take_append n seen rest) ∙ (places_append 0 s (take n seen) (take (n - length seen) rest)
    ∙ (ap (λ l. drawn n s seen ++ l) (places_absent (0 + length (take n seen)) s (take (n - length seen) rest) (absent_take s (n - length seen) rest p)) ∙ append-nil (drawn n s seen)))

-- a draw adds its own place
pub drawn_one : (n s : ℕ) (xs : List ℕ) → drawn n s (xs ++ s ∷ []) ≡ drawn n s xs ++ option_to_list (draw_at n (length xs))
drawn_one n s xs =
    dite (dec_lt (length xs) n)
    (λ below. let whole = ap (places_from 0 s) (take_all n (xs ++ s ∷ []) (omega (arith, length-append xs (s ∷ [])))) in
    let mine : places_from (0 + length xs) s (s ∷ []) ≡ length xs ∷ [] = rw (eq-eqb s s refl, zero-add) refl in
    let front = ap (places_from 0 s) (take_all n xs (omega arith)) in
    rw (lt-ltb (length xs) n below) (whole ∙ (places_append 0 s xs (s ∷ []) ∙ (ap (λ l. places_from 0 s xs ++ l) mine ∙ ap (λ l. l ++ length xs ∷ []) (sym front)))))
    (λ past. rw (le-ltb (length xs) n (omega arith)) (ap (places_from 0 s) (take-append-le n xs (s ∷ []) (omega arith)) ∙ sym (append-nil (drawn n s xs))))

-- a draw adds what it gets to the pieces of its seat
pub drawn_next : (n s : ℕ) (seen history : List ℕ) → BeginsWith history s seen → drawn n s (history ++ s ∷ []) ≡ drawn n s seen ++ option_to_list (draw_at n (length history))
drawn_next n s seen history b =
    let before : drawn n s history ≡ drawn n s seen = ap (drawn n s) b.is ∙ drawn_more n s seen b.rest b.no_other in
    drawn_one n s history ∙ ap (λ l. l ++ option_to_list (draw_at n (length history))) before
