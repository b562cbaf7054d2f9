-- The codes of cells, rows and schemas, by which a proof tells values apart that hold them.
use Rattle.std.specs.Prelude.{◌≡◌, ℕ, ℤ, Bool, true, false, List, ◌⊎◌, Option, Some, None, refl}
use Rattle.std.proofs.Common.{inl, inr}
use Rattle.std.specs.Coded.{Coded, code_by, coded×, coded⊎, coded_bool, coded_list, coded_option, coded_ℕ, coded_ℤ}
use Rattle.cells.specs.Values.{RowValue, Table}
use Rattle.cells.specs.declared.cell.Cell.{Cell}
use Rattle.cells.specs.declared.cell.Cell.TheVariants.{Null, Int, Text}
use Rattle.cells.specs.declared.schema.Column.{Column}
use Rattle.cells.specs.declared.schema.ColumnType.{ColumnType}
use Rattle.cells.specs.declared.schema.ColumnType.TheVariants as column

-- a cell as a value of types that std codes
abbrev pub stored_cell : Cell → Option (ℤ ⊎ List ℕ)
stored_cell Null = None
stored_cell (Int n) = Some (inl n)
stored_cell (Text t) = Some (inr t)

abbrev pub cell_stored : Option (ℤ ⊎ List ℕ) → Cell
cell_stored None = Null
cell_stored (Some (inl n)) = Int n
cell_stored (Some (inr t)) = Text t

abbrev pub cell_stored_again : (c : Cell) → cell_stored (stored_cell c) ≡ c
cell_stored_again Null = refl
cell_stored_again other = refl

abbrev pub coded_cell : Coded Cell
coded_cell = code_by (Option (ℤ ⊎ List ℕ)) (coded_option (coded⊎ coded_ℤ (coded_list coded_ℕ))) stored_cell cell_stored cell_stored_again

-- a row as its key and its cells
abbrev pub coded_row : Coded RowValue
coded_row = code_by (Cell × List Cell) (coded× coded_cell (coded_list coded_cell)) (λ r. (r.key, r.cells)) (λ p. record { key = p.0; cells = p.1 }) (λ _. refl)

-- a type as whether it is INT
abbrev pub is_int : ColumnType → Bool
is_int column.Int = true
is_int column.Text = false

abbrev pub type_stored : Bool → ColumnType
type_stored true = column.Int
type_stored false = column.Text

abbrev pub type_stored_again : (kind : ColumnType) → type_stored (is_int kind) ≡ kind
type_stored_again column.Int = refl
type_stored_again column.Text = refl

abbrev pub coded_type : Coded ColumnType
coded_type = code_by Bool coded_bool is_int type_stored type_stored_again

abbrev pub coded_column : Coded Column
coded_column = code_by (List ℕ × ColumnType) (coded× (coded_list coded_ℕ) coded_type) (λ c. (c.name, c.kind)) (λ p. record { name = p.0; kind = p.1 }) (λ _. refl)

-- a schema as its name, its columns and its key
abbrev pub coded_table : Coded Table
coded_table = code_by (List ℕ × (List Column × ℕ)) (coded× (coded_list coded_ℕ) (coded× (coded_list coded_column) coded_ℕ))
    (λ t. (t.name, (t.columns, t.key))) (λ p. record { name = p.0; columns = p.1.0; key = p.1.1 }) (λ _. refl)
