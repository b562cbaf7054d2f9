-- Tuples are hashed cell by cell.
use Rattle.std.proofs.Common.{◌≡◌, ◌∙◌, ◌+◌, ◌%◌, ◌^◌, ℕ, List, [], ◌∷◌, ap, fold, refl, sym}
use Rattle.std.proofs.Math.Nat.{mod-add-mod}
use Rattle.std.proofs.lemmas.List.Sums.{fold-append}
use Rattle.cells.specs.Hashes.{cell_bytes, fnv_start, fnv_step, fnv_tuple_hash, plain_hash, plain_tuple_hash, tuple_bytes}
use Rattle.cells.specs.declared.cell.Cell.{Cell}

fold-tuple_bytes : (hash : ℕ) (cs : List Cell)
    → fold (λ h c. fold fnv_step h (cell_bytes c)) hash cs ≡ fold fnv_step hash (tuple_bytes cs)
fold-tuple_bytes hash [] = refl
fold-tuple_bytes hash (c ∷ cs) =
    fold-tuple_bytes (fold fnv_step hash (cell_bytes c)) cs ∙ sym (fold-append fnv_step hash (cell_bytes c) (tuple_bytes cs))

pub hashed_by_cells : (hash : ℕ) (cs : List Cell)
    → hash ≡ fold (λ h c. fold fnv_step h (cell_bytes c)) fnv_start cs → hash ≡ fnv_tuple_hash cs
hashed_by_cells hash cs e = e ∙ fold-tuple_bytes fnv_start cs

-- a sum modulo 2 ^ 64 at each step is the sum modulo 2 ^ 64
fold-modulo : (n : ℕ) (cs : List Cell)
    → fold (λ s c. (s + plain_hash c) % 2 ^ 64) (n % 2 ^ 64) cs ≡ fold (λ s c. s + plain_hash c) n cs % 2 ^ 64
fold-modulo n [] = refl
fold-modulo n (c ∷ cs) =
    ap (λ s. fold (λ s c. (s + plain_hash c) % 2 ^ 64) s cs) (mod-add-mod n (2 ^ 64) (plain_hash c)) ∙ fold-modulo (n + plain_hash c) cs

pub summed_by_cells : (hash : ℕ) (cs : List Cell)
    → hash ≡ fold (λ s c. (s + plain_hash c) % 2 ^ 64) 0 cs → hash ≡ plain_tuple_hash cs
summed_by_cells hash cs e = e ∙ fold-modulo 0 cs
