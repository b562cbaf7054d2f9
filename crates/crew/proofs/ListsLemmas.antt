-- Lists that a loop takes from and adds to, and the seats of a new deal among them.
use Rattle.std.proofs.Common.{◌≡◌, ℕ, zero, suc, ◌+◌, List, [], ◌∷◌, ◌++◌, length, refl, sym, ap, ◌∙◌, subst, arith, length-append, map}
use Rattle.std.proofs.lemmas.List.FromFn.{length-map-range_with_len}
use Rattle.std.specs.List.{range_with_len}
use Rattle.std.specs.Prelude.{Result, Ok, Err, IfOk, IfErr}
use Rattle.crew.specs.Seats.{DealValue, SeatValue, new_seat, new_seats}
use Rattle.crew.specs.Works.{AllNumbered}

-- a list that is made of numbers has at each what the function gives there
made_of_numbers : {A : Type 0} (f : ℕ → A) (from count : ℕ) → AllNumbered (λ k x. x ≡ f k) from (map f (range_with_len from count))
made_of_numbers f from zero = tt
made_of_numbers f from (suc count) = (refl, made_of_numbers f (from + 1) count)

-- the seats of a new deal, as a loop takes them
pub all_new : (deal : DealValue) (seats : List SeatValue) → seats ≡ new_seats deal → (0 + length seats ≡ deal.seats) × AllNumbered (λ k seat. seat ≡ new_seat deal k) 0 seats
all_new deal seats is =
    let long : length seats ≡ deal.seats = ap length is ∙ length-map-range_with_len (new_seat deal) 0 deal.seats in
    (omega arith, subst (AllNumbered (λ k seat. seat ≡ new_seat deal k) 0) (sym is) (made_of_numbers (new_seat deal) 0 deal.seats))

-- the first of what is left is taken
pub taken : {A : Type 0} (P : ℕ → A → Type 0) (from : ℕ) (old new : List A) (x : A) → old ≡ x ∷ new → AllNumbered P from old → P from x × AllNumbered P (from + 1) new
taken P from old new x is all = subst (AllNumbered P from) is all

pushed : {A : Type 0} (P : ℕ → A → Type 0) (from : ℕ) (xs : List A) (x : A) → AllNumbered P from xs → P (from + length xs) x → AllNumbered P from (xs ++ x ∷ [])
pushed P from [] x all last = (subst (λ k. P k x) (omega arith) last, tt)
pushed P from (y ∷ ys) x all last = (all.0, pushed P (from + 1) ys x all.1 (subst (λ k. P k x) (omega arith) last))

-- one more is added
pub added : {A : Type 0} (P : ℕ → A → Type 0) (old new : List A) (x : A) → new ≡ old ++ x ∷ [] → AllNumbered P 0 old → P (length old) x → AllNumbered P 0 new
added P old new x is all last = subst (AllNumbered P 0) (sym is) (pushed P 0 old x all (subst (λ k. P k x) (omega arith) last))

-- what is so of a seat that began work is so of it by its number, whether a thread was started or not
pub whichever : {H S : Type 0} (P : ℕ → Type 0) (number_of_handle : H → ℕ) (number_of_seat : S → ℕ) (n : ℕ) (begun : Result H S)
    → IfOk begun (λ h. number_of_handle h ≡ n) → IfErr begun (λ s. number_of_seat s ≡ n) → IfOk begun (λ h. P (number_of_handle h)) → IfErr begun (λ s. P (number_of_seat s)) → P n
whichever P number_of_handle number_of_seat n (Ok h) same _ so _ = subst P same so
whichever P number_of_handle number_of_seat n (Err s) _ same _ so = subst P same so

-- one goes from what is left to what is done, and so together there are as many
pub as_many : {A B : Type 0} (n : ℕ) (done now : List A) (y : A) (old new : List B) (x : B) → now ≡ done ++ y ∷ [] → old ≡ x ∷ new → length done + length old ≡ n → (length now + length new ≡ n) × (length now ≡ length done + 1)
as_many n done now y old new x more less is = let a = ap length more in let b = ap length less in let c = length-append done (y ∷ []) in (omega arith, omega arith)
