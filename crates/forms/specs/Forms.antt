-- The forms of a report.
use Rattle.std.specs.Prelude.{ℕ, List, [], ◌∷◌, ◌++◌, Option, bytes_eq, codes}
use Rattle.std.specs.List.{find, flat_map, join_by}
use Rattle.cells.specs.declared.total.Total.{Total}
use Rattle.forms.specs.Classic.{header_text, row_text}
use Rattle.forms.specs.Csv.{csv_header, csv_row}
use Rattle.forms.specs.Json.{json_columns, json_row}
use Rattle.forms.specs.Tables.{table_header, table_row, widths_of}
use Rattle.forms.specs.declared.form.Form.{Form}
use Rattle.forms.specs.declared.form.Form.TheVariants.{Classic, Csv, Json, Table}

-- the word by which a form is chosen
abbrev pub form_word : Form → List ℕ
form_word Classic = codes "classic"
form_word Csv = codes "csv"
form_word Json = codes "json"
form_word Table = codes "table"

-- the form that a word chooses
abbrev pub form_of : List ℕ → Option Form
form_of word = find (λ form. bytes_eq word (form_word form)) (Classic ∷ Csv ∷ Json ∷ Table ∷ [])

-- the body of a report in a form, by its headings and its rows
abbrev pub report_in : Form → List (List ℕ) → List (List Total) → List ℕ
report_in Classic headings rows = header_text headings ++ flat_map row_text rows
report_in Csv headings rows = csv_header headings ++ flat_map csv_row rows
report_in Json headings rows = codes "\"columns\":" ++ (json_columns headings ++ (codes ",\"rows\":[" ++ (join_by json_row (44 ∷ []) rows ++ codes "]")))
report_in Table headings rows = table_header (widths_of headings rows) headings ++ flat_map (table_row (widths_of headings rows)) rows
