-- The fields that were read so far are the first ones of the record.
use Rattle.std.proofs.Common.{add-one, refl, ap, sym, take, ◌∙◌}
use Rattle.std.proofs.lemmas.List.{map-append}
use Rattle.std.specs.Borrow.{Bor}
use Rattle.std.specs.Prelude.{◌≡◌, ◌+◌, ◌++◌, zero, suc, ℕ, List, [], ◌∷◌, Option, Some, None, map}
use Rattle.csv.specs.Records.{field_at}

first_more : (fs : List (List ℕ)) (i : ℕ) (f : List ℕ) → Some f ≡ field_at fs i → take (suc i) fs ≡ take i fs ++ f ∷ []
unfolding field_at
first_more [] i f e = cc
first_more (g ∷ fs) zero f e = cc
first_more (g ∷ fs) (suc i) f e = ap (λ (rest : List (List ℕ)). g ∷ rest) (first_more fs i f e)

-- where no field is left, all were read
pub fields_all : (fs : List (List ℕ)) (i : ℕ) → ◌≡◌ {A = Option (List ℕ)} None (field_at fs i) → take i fs ≡ fs
unfolding field_at
fields_all [] zero e = refl
fields_all [] (suc i) e = refl
fields_all (g ∷ fs) zero e = cc
fields_all (g ∷ fs) (suc i) e = ap (λ (rest : List (List ℕ)). g ∷ rest) (fields_all fs i e)

-- one field more
pub next_field : (fs : List (List ℕ)) (i : ℕ) (f : List ℕ) → Some f ≡ field_at fs i → take (i + 1) fs ≡ take i fs ++ f ∷ []
next_field fs i f e = rw add-one (first_more fs i f e)

-- and one more in a list of what is lent
pub fields_more : (bs : List (Bor (List ℕ))) (b : Bor (List ℕ)) (fs : List (List ℕ)) (i : ℕ)
    → map (λ f. f.now) bs ≡ take i fs → Some b.now ≡ field_at fs i → map (λ f. f.now) (bs ++ b ∷ []) ≡ take (i + 1) fs
fields_more bs b fs i so_far next =
    map-append (λ f. f.now) bs (b ∷ []) ∙ ap (λ (front : List (List ℕ)). front ++ b.now ∷ []) so_far ∙ sym (next_field fs i b.now next)
