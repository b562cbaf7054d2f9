-- Cells in bytes, one behind another: a first byte tells the form of a cell, and what the form needs follows.
use Rattle.std.specs.Prelude.{◌≡◌, ℕ, zero, suc, ◌+◌, ◌-◌, ◌<◌, ◌≤◌, ◌==◌, ◌^◌, List, [], ◌∷◌, ◌++◌, drop, length, take, if◌then◌else◌, IsUtf8, ⊤}
use Rattle.std.specs.Int.{cast_signed, from_le_bytes, w16, w32, w64}
use Rattle.cells.specs.declared.cell.Cell.{Cell}
use Rattle.cells.specs.declared.cell.Cell.TheVariants as cell
use Rattle.cells.specs.declared.packing.CellForm.{CellForm}
use Rattle.cells.specs.declared.packing.CellForm.TheVariants.{Null, Int32, Int64, ShortText, LongText}

-- the form that a first byte tells
unfoldable pub form_of : ℕ → CellForm
form_of first = if first == 0 then Null else if first == 1 then Int32 else if first == 2 then Int64
    else if first == 255 then LongText else ShortText (first - 3)

-- the length of a long text, in 2 bytes before it
abbrev pub long_len : List ℕ → ℕ
long_len [] = 0
long_len (low ∷ []) = 0
long_len (low ∷ high ∷ rest) = from_le_bytes w16 (low ∷ high ∷ [])

-- how many bytes of a cell follow its first
abbrev pub size_behind : CellForm → List ℕ → ℕ
size_behind Null behind = 0
size_behind Int32 behind = 4
size_behind Int64 behind = 8
size_behind (ShortText len) behind = len
size_behind LongText behind = 2 + long_len behind

-- the cell that they are
abbrev pub cell_behind : CellForm → List ℕ → Cell
cell_behind Null behind = cell.Null
cell_behind Int32 behind = cell.Int (cast_signed w32 (from_le_bytes w32 (take 4 behind)))
cell_behind Int64 behind = cell.Int (cast_signed w64 (from_le_bytes w64 (take 8 behind)))
cell_behind (ShortText len) behind = cell.Text (take len behind)
cell_behind LongText behind = cell.Text (take (long_len behind) (drop 2 behind))

-- the size of the cell that stands first, and the cell
unfoldable pub first_size : List ℕ → ℕ
first_size [] = 1
first_size (first ∷ behind) = suc (size_behind (form_of first) behind)

unfoldable pub first_cell : List ℕ → Cell
first_cell [] = cell.Null
first_cell (first ∷ behind) = cell_behind (form_of first) behind

-- so many cells that stand first
unfoldable pub cells_in : ℕ → List ℕ → List Cell
cells_in zero bytes = []
cells_in (suc n) bytes = first_cell bytes ∷ cells_in n (drop (first_size bytes) bytes)

-- a text is UTF-8
abbrev pub IsSpelt : Cell → Type 0
IsSpelt cell.Null = ⊤
IsSpelt (cell.Int n) = ⊤
IsSpelt (cell.Text t) = ∥ IsUtf8 t ∥₁

-- a whole cell stands first
pub record IsFirst (bytes : List ℕ) : Type 0 where
  pub inside : first_size bytes ≤ length bytes
  pub spelt : IsSpelt (first_cell bytes)

-- so many whole cells are all that there is
unfoldable pub Fills : ℕ → List ℕ → Type 0
Fills zero bytes = length bytes ≡ 0
Fills (suc n) bytes = IsFirst bytes × Fills n (drop (first_size bytes) bytes)

-- of the n cells xs those behind the first i are left
pub record IsLeft (n i : ℕ) (xs : List Cell) (rest : List ℕ) : Type 0 where
  pub fills : Fills (n - i) rest
  pub cells : cells_in (n - i) rest ≡ drop i xs

-- the bytes are those of one cell
pub record IsPacked (x : Cell) (bytes : List ℕ) : Type 0 where
  pub fills : Fills 1 bytes
  pub is : first_cell bytes ≡ x

-- the bytes of one cell stand behind what was there
pub record IsMoreBy (x : Cell) (old new : List ℕ) : Type 0 where
  pub own : List ℕ
  pub packed : IsPacked x own
  pub is : new ≡ old ++ own

-- the length of a text has 16 bits
abbrev pub IsShort : Cell → Type 0
IsShort cell.Null = ⊤
IsShort (cell.Int n) = ⊤
IsShort (cell.Text t) = length t < 2 ^ 16
