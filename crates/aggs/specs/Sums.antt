-- The laws of SUM.
use Rattle.std.specs.Prelude.{◌≡◌, ℕ, zero, suc, ◌+◌, ◌≤◌, ℤ, pos, ◌+ℤ◌, List, [], ◌∷◌, ◌++◌, length, Some, refl}
use Rattle.std.specs.List.{reduce}
use Rattle.std.specs.List.Sorted.{IsPermutation}
use Rattle.std.proofs.Common.{ap, ap₂, sym, ◌∙◌, arith}
use Rattle.std.proofs.lemmas.Int.{ints}
use Rattle.std.proofs.lemmas.List.{length-append}
use Rattle.aggs.specs.Bags.{decided_by_bag}
use Rattle.aggs.specs.Reducing.{merged, reduce_more}
use Rattle.aggs.specs.Room.{cell_limit}
use Rattle.aggs.specs.Totals.{Summed}
use Rattle.aggs.specs.Values.{integers, sum, total_or_null}
use Rattle.cells.specs.declared.cell.Cell.{Cell}
use Rattle.cells.specs.declared.cell.Cell.TheVariants.{Null, Int, Text}
use Rattle.cells.specs.declared.total.Total.{Total}
use Rattle.cells.specs.declared.total.Total.TheVariants as total

-- the integers added up, 0 where there is none
abbrev pub added : List ℤ → ℤ
added [] = pos 0
added (n ∷ ns) = n +ℤ added ns

-- the accumulator of a list
abbrev pub summed : List Cell → Summed
summed xs = record { sum = added (integers xs); integers = length (integers xs) }

-- two of them put together
abbrev pub sums : Summed → Summed → Summed
sums a b = record { sum = a.sum +ℤ b.sum; integers = a.integers + b.integers }

-- the sum of so many integers: of none there is none
abbrev pub sum_or_null : ℕ → ℤ → Total
sum_or_null zero n = total.Null
sum_or_null (suc count) n = total.Int n

integers_append : (xs ys : List Cell) → integers (xs ++ ys) ≡ integers xs ++ integers ys
integers_append [] ys = refl
integers_append (Null ∷ xs) ys = integers_append xs ys
integers_append (Int n ∷ xs) ys = ap (λ ns. n ∷ ns) (integers_append xs ys)
integers_append (Text t ∷ xs) ys = integers_append xs ys

added_append : (ms ns : List ℤ) → added (ms ++ ns) ≡ added ms +ℤ added ns
added_append [] ns = omega (arith, ints)
added_append (m ∷ ms) ns = omega (arith, ints, added_append ms ns)

pub sum_joins : (xs ys : List Cell) → summed (xs ++ ys) ≡ sums (summed xs) (summed ys)
sum_joins xs ys = ap (λ ns. record { sum = added ns; integers = length ns }) (integers_append xs ys)
    ∙ ap₂ (λ (n : ℤ) (count : ℕ). record { sum = n; integers = count }) (added_append (integers xs) (integers ys)) (length-append (integers xs) (integers ys))

pub sums_turn : (a b : Summed) → sums a b ≡ sums b a
sums_turn a b = ap₂ (λ (n : ℤ) (count : ℕ). record { sum = n; integers = count }) (omega (arith, ints)) (omega arith)

pub sum_any_order : (xs ys : List Cell) → IsPermutation xs ys → summed xs ≡ summed ys
sum_any_order = decided_by_bag summed sums sum_joins (λ us vs. sum_joins us vs ∙ sums_turn (summed us) (summed vs) ∙ sym (sum_joins vs us))

pub sum_first : (a : Summed) → sums (summed []) a ≡ a
sum_first a = ap₂ (λ (n : ℤ) (count : ℕ). record { sum = n; integers = count }) (omega (arith, ints)) (omega arith)

pub sum_second : (a : Summed) → sums a (summed []) ≡ a
sum_second a = sums_turn a (summed []) ∙ sum_first a

add_assoc : (a b c : ℤ) → (a +ℤ b) +ℤ c ≡ a +ℤ (b +ℤ c)
add_assoc a b c = omega (arith, ints)

add_turns : (a b : ℤ) → a +ℤ b ≡ b +ℤ a
add_turns a b = omega (arith, ints)

reduced : (n : ℤ) (ns : List ℤ) → reduce (λ a b. a +ℤ b) (n ∷ ns) ≡ Some (added (n ∷ ns))
reduced n [] = ap Some (omega (arith, ints))
reduced n (m ∷ ns) = reduce_more (λ a b. a +ℤ b) add_assoc add_turns n (m ∷ ns) ∙ ap (merged (λ a b. a +ℤ b) (Some n)) (reduced m ns)

value : (ns : List ℤ) → sum_or_null (length ns) (added ns) ≡ total_or_null total.Int (reduce (λ a b. a +ℤ b) ns)
value [] = refl
value (n ∷ ns) = ap (total_or_null total.Int) (sym (reduced n ns))

pub sum_finishes : (xs : List Cell) → sum_or_null (summed xs).integers (summed xs).sum ≡ sum xs
sum_finishes xs = value (integers xs)

integers_at_most : (xs : List Cell) → length (integers xs) ≤ length xs
integers_at_most [] = omega arith
integers_at_most (Null ∷ xs) = omega (arith, integers_at_most xs)
integers_at_most (Int n ∷ xs) = omega (arith, integers_at_most xs)
integers_at_most (Text t ∷ xs) = omega (arith, integers_at_most xs)

pub sum_room : (xs ys : List Cell) → length xs + length ys ≤ cell_limit → length (integers xs) + length (integers ys) ≤ cell_limit
sum_room xs ys few = omega (arith, integers_at_most xs, integers_at_most ys)
