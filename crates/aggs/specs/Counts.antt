-- The laws of COUNT(*) and COUNT.
use Rattle.std.specs.Prelude.{◌≡◌, ℕ, ◌+◌, ◌<◌, ◌≤◌, ◌^◌, Bool, true, false, not, List, ◌++◌, length, refl}
use Rattle.std.specs.List.Sorted.{IsPermutation}
use Rattle.std.proofs.Common.{ap, sym, ◌∙◌, arith}
use Rattle.std.proofs.lemmas.List.{length-append}
use Rattle.std.proofs.lemmas.List.Elements.{filter-append}
use Rattle.std.proofs.lemmas.List.Filters.{length-filter_both}
use Rattle.std.proofs.lemmas.List.Sorted.{length_permutation}
use Rattle.aggs.specs.Bags.{decided_by_bag}
use Rattle.aggs.specs.Room.{cell_limit}
use Rattle.aggs.specs.Values.{is_null, present}
use Rattle.aggs.specs.declared.count.Count.{Count}
use Rattle.aggs.specs.declared.count.CountRows.{CountRows}
use Rattle.cells.specs.declared.cell.Cell.{Cell}

-- the accumulators of a number
abbrev pub rows : ℕ → CountRows
rows n = record { count = n }

abbrev pub counted : ℕ → Count
counted n = record { count = n }

pub rows_join : (xs ys : List Cell) → rows (length (xs ++ ys)) ≡ rows (length xs + length ys)
rows_join xs ys = ap rows (length-append xs ys)

pub rows_any_order : (xs ys : List Cell) → IsPermutation xs ys → rows (length xs) ≡ rows (length ys)
rows_any_order xs ys p = ap rows (sym (length_permutation xs ys p))

pub rows_first : (a : CountRows) → rows (0 + a.count) ≡ a
rows_first a = ap rows (omega arith)

pub rows_second : (a : CountRows) → rows (a.count + 0) ≡ a
rows_second a = ap rows (omega arith)

pub rows_room : (xs ys : List Cell) → length xs + length ys ≤ cell_limit → length xs + length ys < 2 ^ 64
rows_room xs ys few = omega arith

pub present_append : (xs ys : List Cell) → present (xs ++ ys) ≡ present xs ++ present ys
present_append xs ys = filter-append (λ c. not (is_null c)) xs ys

number_append : (xs ys : List Cell) → length (present (xs ++ ys)) ≡ length (present xs) + length (present ys)
number_append xs ys = ap length (present_append xs ys) ∙ length-append (present xs) (present ys)

pub count_joins : (xs ys : List Cell) → counted (length (present (xs ++ ys))) ≡ counted (length (present xs) + length (present ys))
count_joins xs ys = ap counted (number_append xs ys)

pub count_any_order : (xs ys : List Cell) → IsPermutation xs ys → counted (length (present xs)) ≡ counted (length (present ys))
count_any_order xs ys p = ap counted (decided_by_bag (λ l. length (present l)) (λ m n. m + n) number_append
    (λ us vs. omega (arith, number_append us vs, number_append vs us)) xs ys p)

pub count_first : (a : Count) → counted (0 + a.count) ≡ a
count_first a = ap counted (omega arith)

pub count_second : (a : Count) → counted (a.count + 0) ≡ a
count_second a = ap counted (omega arith)

not_twice : (b : Bool) → b ≡ not (not b)
not_twice true = refl
not_twice false = refl

pub number_at_most : (xs : List Cell) → length (present xs) ≤ length xs
number_at_most xs = omega (arith, length-filter_both (λ c. not (is_null c)) is_null (λ c. not_twice (is_null c)) xs)

pub count_room : (xs ys : List Cell) → length xs + length ys ≤ cell_limit → length (present xs) + length (present ys) < 2 ^ 64
count_room xs ys few = omega (arith, number_at_most xs, number_at_most ys)
