-- The two hashes of cells and tuples.
use Rattle.std.specs.Prelude.{ℕ, List, [], ◌∷◌, ◌++◌, ◌*◌, ◌%◌, fold, length}
use Rattle.std.specs.Int.{cast_unsigned, to_le_bytes, w64}
use Rattle.std.specs.Int.Bits.{bit_xor}
use Rattle.std.specs.List.{sum_by}
use Rattle.cells.specs.Limits.{whole_limit}
use Rattle.cells.specs.declared.cell.Cell.{Cell}
use Rattle.cells.specs.declared.cell.Cell.TheVariants.{Null, Int, Text}

-- the hash of no bytes
abbrev pub fnv_start : ℕ
fnv_start = 14695981039346656037

-- one byte more: exclusive-or into the low byte, then a multiplication
abbrev pub fnv_step : ℕ → ℕ → ℕ
fnv_step hash byte = (bit_xor hash byte * 1099511628211) % whole_limit

-- FNV-1a with 64 bits, of Fowler, Noll and Vo
abbrev pub fnv1a : List ℕ → ℕ
fnv1a = fold fnv_step fnv_start

-- a number's 8 bytes, the low byte first
abbrev pub eight_bytes : ℕ → List ℕ
eight_bytes = to_le_bytes w64

-- a kind, then an integer in two's complement, or a text's length and its bytes
abbrev pub cell_bytes : Cell → List ℕ
cell_bytes Null = 0 ∷ []
cell_bytes (Int n) = 1 ∷ eight_bytes (cast_unsigned w64 n)
cell_bytes (Text t) = 2 ∷ (eight_bytes (length t) ++ t)

-- those of its cells in turn
abbrev pub tuple_bytes : List Cell → List ℕ
tuple_bytes [] = []
tuple_bytes (c ∷ cs) = cell_bytes c ++ tuple_bytes cs

abbrev pub fnv_hash : Cell → ℕ
fnv_hash c = fnv1a (cell_bytes c)

abbrev pub fnv_tuple_hash : List Cell → ℕ
fnv_tuple_hash cs = fnv1a (tuple_bytes cs)

-- an integer's bits, a text's length
abbrev pub plain_hash : Cell → ℕ
plain_hash Null = 0
plain_hash (Int n) = cast_unsigned w64 n
plain_hash (Text t) = length t

-- the sum of its cells' hashes
abbrev pub plain_tuple_hash : List Cell → ℕ
plain_tuple_hash cs = sum_by plain_hash cs % whole_limit
