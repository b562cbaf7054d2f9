-- The script that asks a question of parts: the line of a table, a load of all parts, a publish and a report.
use Rattle.std.specs.Prelude.{◌==◌, ◌+◌, ◌||◌, ℕ, List, [], ◌∷◌, ◌++◌, codes, map, option_and_then, unwrap_or, if◌then◌else◌}
use Rattle.std.specs.Fmt.{decimal}
use Rattle.std.specs.List.{flat_map, range_with_len}
use Rattle.std.specs.Path.{path_file_stem}
use Rattle.prepare.specs.Words.{name_of}
use Rattle.cells.specs.declared.schema.Column.{Column}
use Rattle.cells.specs.declared.schema.ColumnType.{ColumnType}
use Rattle.cells.specs.declared.schema.ColumnType.TheVariants.{Int, Text}

-- the end of a line
abbrev pub line_end : List ℕ
line_end = 10 ∷ []

abbrev pub type_text : ColumnType → List ℕ
type_text Int = codes " INT"
type_text Text = codes " TEXT"

-- the column at a place, in the text of a table with its key at another
abbrev pub column_text : ℕ → ℕ → Column → List ℕ
column_text key place c = (if place == 0 then [] else codes ", ") ++ c.name ++ type_text c.kind ++ (if place == key then codes " KEY" else [])

-- the columns from a place on
abbrev pub columns_text : ℕ → ℕ → List Column → List ℕ
columns_text key place [] = []
columns_text key place (c ∷ cs) = column_text key place c ++ columns_text key (place + 1) cs

abbrev pub table_line : List ℕ → List Column → ℕ → List ℕ
table_line name columns key = codes "table " ++ name ++ codes " (" ++ columns_text key 0 columns ++ codes ")"

-- the name of the table of a file, by the file's name without its folder and its ending
abbrev pub table_name : List ℕ → List ℕ
table_name file = unwrap_or (option_and_then name_of (path_file_stem file)) (codes "T")

-- so many parts are loaded
abbrev pub load_line : ℕ → List ℕ
load_line count = codes "load" ++ flat_map (λ number. codes " " ++ decimal number) (range_with_len 1 count)

-- a text on one line: each end of a line is a blank
abbrev pub one_line : List ℕ → List ℕ
one_line = map (λ byte. if byte == 10 || byte == 13 then 32 else byte)

-- what stands between the load and the query
abbrev pub publish_and_report : List ℕ
publish_and_report = line_end ++ codes "publish" ++ line_end ++ codes "report "

abbrev pub script_of : List ℕ → ℕ → List ℕ → List ℕ
script_of line count query = line ++ line_end ++ load_line count ++ publish_and_report ++ one_line query ++ line_end
