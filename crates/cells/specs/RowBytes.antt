-- The bytes of a row that is read.
use Rattle.std.specs.Prelude.{ℕ, List}
use Rattle.cells.specs.declared.row_bytes.RowBytes.{RowBytes}
use Rattle.cells.specs.declared.row_bytes.RowBytes.TheVariants.{Near, Far}

-- the bytes, wherever they lie
abbrev pub row_bytes : RowBytes → List ℕ
row_bytes (Near bytes) = bytes
row_bytes (Far bytes) = bytes.items
