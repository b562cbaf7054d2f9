-- A column, wherever it is.
use Rattle.columns.specs.Columns.{ColumnValue}
use Rattle.columns.specs.declared.form.Form.{Form}
use Rattle.columns.specs.declared.form.Form.TheVariants as form

-- the column, whether it is its own or shared
abbrev pub column_of : Form → ColumnValue
column_of (form.Own column) = column
column_of (form.Shared column) = column.value
