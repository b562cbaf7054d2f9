-- Runs of a class of bytes at the front of a text.
use Rattle.std.proofs.Common.{◌≡◌, ℕ, suc, zero, ◌+◌, ◌<◌, ◌≤◌, Bool, true, false, List, [], ◌∷◌, ◌++◌, length, get_or, take, drop, cond, IsUtf8, refl, ap, ◌∙◌, subst, arith, length-append, slice_index}
use Rattle.std.specs.List.{list_all, prefix_len}
use Rattle.std.specs.Str.{IsCharBoundary}
use Rattle.std.proofs.lemmas.Str.{IsCharBoundary-start, IsCharBoundary-after_ascii}
use Rattle.std.proofs.lemmas.List.Sums.{prefix_len-le-length, prefix_len_passes}
use Rattle.std.proofs.lemmas.Bool.Decides.{nat_tests}
use Rattle.cells.specs.Spelling.{run, past}
use Rattle.cells.specs.Scanning.{class_test}
use Rattle.cells.specs.declared.scan.Class.{Class}
use Rattle.cells.specs.declared.scan.Class.TheVariants.{Blank, Letter, InWord, Digit}

-- the bytes that `prefix_len` counts are the run
pub take_run : (p : ℕ → Bool) (bs : List ℕ) → take (prefix_len p bs) bs ≡ run p bs
take_run p [] = refl
take_run p (b ∷ bs) =
    let next : 1 + prefix_len p bs ≡ suc (prefix_len p bs) = omega arith in
    elim (p b) as (λ v. take (cond v (1 + prefix_len p bs) 0) (b ∷ bs) ≡ cond v (b ∷ run p bs) []) [ true ↦ rw next (ap (λ l. b ∷ l) (take_run p bs)) | false ↦ refl ]

-- and the others follow it
pub drop_past : (p : ℕ → Bool) (bs : List ℕ) → drop (prefix_len p bs) bs ≡ past p bs
drop_past p [] = refl
drop_past p (b ∷ bs) =
    let next : 1 + prefix_len p bs ≡ suc (prefix_len p bs) = omega arith in
    elim (p b) as (λ v. drop (cond v (1 + prefix_len p bs) 0) (b ∷ bs) ≡ cond v (past p bs) (b ∷ bs)) [ true ↦ rw next (drop_past p bs) | false ↦ refl ]

pub run_past : (p : ℕ → Bool) (bs : List ℕ) → bs ≡ run p bs ++ past p bs
run_past p [] = refl
run_past p (b ∷ bs) =
    elim (p b) as (λ v. (b ∷ bs) ≡ cond v (b ∷ run p bs) [] ++ cond v (past p bs) (b ∷ bs)) [ true ↦ ap (λ l. b ∷ l) (run_past p bs) | false ↦ refl ]

pub run_passes : (p : ℕ → Bool) (bs : List ℕ) → list_all p (run p bs) ≡ true
run_passes p [] = refl
run_passes p (b ∷ bs) = let others = run_passes p bs in grind (arith, nat_tests)

-- the byte behind a run is not of its class, and nor is the 0 past the end
pub past_stops : (p : ℕ → Bool) (bs : List ℕ) → p 0 ≡ false → p (slice_index (past p bs) 0) ≡ false
past_stops p [] h = h
past_stops p (b ∷ bs) h = let others = past_stops p bs h in grind (arith, nat_tests)

pub past_shorter : (p : ℕ → Bool) (bs : List ℕ) → length (past p bs) ≤ length bs
past_shorter p bs = let parts = ap length (run_past p bs) ∙ length-append (run p bs) (past p bs) in omega arith

-- bytes of the class, with none behind them, are the run
pub run_of : (p : ℕ → Bool) (a r : List ℕ) → list_all p a ≡ true → p (slice_index r 0) ≡ false → (run p (a ++ r) ≡ a) × (past p (a ++ r) ≡ r)
run_of p [] [] h k = (refl, refl)
run_of p [] (c ∷ cs) h k = (rw k refl, rw k refl)
run_of p (b ∷ bs) r h k =
    let first : p b ≡ true = grind (arith, nat_tests) in
    let others : list_all p bs ≡ true = grind (arith, nat_tests) in
    let behind = run_of p bs r others k in
    (rw first (ap (λ l. b ∷ l) behind.0), rw first behind.1)

-- behind bytes of ASCII stands no half of a character
pub boundary_at : (text : List ℕ) (n : ℕ) → IsUtf8 text → n ≤ length text → ((k : ℕ) → k < n → get_or text k 0 < 128) → IsCharBoundary text n
boundary_at text zero utf8 le small = IsCharBoundary-start text utf8
boundary_at text (suc k) utf8 le small =
    let next : k + 1 ≡ suc k = omega arith in
    subst (IsCharBoundary text) next (IsCharBoundary-after_ascii text k utf8 (omega arith) (small k (omega arith)))

class_ascii : (c : Class) (b : ℕ) → class_test c b ≡ true → b < 128
class_ascii Blank b h = grind (arith, nat_tests)
class_ascii other b h = grind (arith, nat_tests)

pub run_ascii : (c : Class) (text : List ℕ) (k : ℕ) → k < prefix_len (class_test c) text → get_or text k 0 < 128
run_ascii c text k h = class_ascii c _ (prefix_len_passes _ text k 0 h)

pub run_boundary : (c : Class) (text : List ℕ) → IsUtf8 text → IsCharBoundary text (prefix_len (class_test c) text)
run_boundary c text utf8 = boundary_at text _ utf8 (prefix_len-le-length _ text) (run_ascii c text)
