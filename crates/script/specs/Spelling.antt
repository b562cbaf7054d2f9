-- What lines and viewers say, in each form. The table form has the headings and refusals of the classic one.
use Rattle.std.specs.Prelude.{ℕ, List, [], ◌++◌, codes, if◌then◌else◌}
use Rattle.cells.specs.declared.refused.Refused.{Refused}
use Rattle.forms.specs.declared.form.Form.{Form}
use Rattle.forms.specs.declared.form.Form.TheVariants.{Classic, Csv, Json, Table}
use Rattle.script.specs.ClassicSpelling as classic
use Rattle.script.specs.CsvSpelling as csv
use Rattle.script.specs.JsonSpelling as json
use Rattle.script.specs.declared.fault.Fault.{Fault}
use Rattle.script.specs.declared.manner.Manner.{Manner}

-- the block of a refused line
abbrev pub refusal : Form → ℕ → Fault → List ℕ
refusal Classic number fault = classic.refusal number fault
refusal Csv number fault = csv.refusal number fault
refusal Json number fault = json.refusal number fault
refusal Table number fault = classic.refusal number fault

-- the heading of a report's block, or of a shape's
abbrev pub heading : Form → ℕ → ℕ → List ℕ
heading Classic number edition = classic.heading number edition
heading Csv number edition = csv.heading number edition
heading Json number edition = json.heading number edition
heading Table number edition = classic.heading number edition

-- what stands in its place where headings are not wanted
abbrev pub no_heading : Form → List ℕ
no_heading Classic = []
no_heading Csv = []
no_heading Json = codes "{"
no_heading Table = []

-- how the block of a report or a shape begins
abbrev pub opening : Manner → ℕ → ℕ → List ℕ
opening manner number edition = if manner.heads then heading manner.form number edition else no_heading manner.form

-- what stands behind the opening of a shape's block
abbrev pub shape_body : Form → List (List ℕ × ℕ) → List ℕ
shape_body Classic prefixes = classic.shape_body prefixes
shape_body Csv prefixes = csv.shape_body prefixes
shape_body Json prefixes = json.shape_body prefixes
shape_body Table prefixes = classic.shape_body prefixes

-- the block of a shape
abbrev pub shape_text : Manner → ℕ → ℕ → List (List ℕ × ℕ) → List ℕ
shape_text manner number edition prefixes = opening manner number edition ++ shape_body manner.form prefixes

-- what stands in place of all blocks of viewers
abbrev pub viewers_refused : Form → Refused → List ℕ
viewers_refused Classic fault = classic.viewers_refused fault
viewers_refused Csv fault = csv.viewers_refused fault
viewers_refused Json fault = json.viewers_refused fault
viewers_refused Table fault = classic.viewers_refused fault

-- how a viewer's block begins
abbrev pub view_heading : Form → ℕ → ℕ → List ℕ
view_heading Classic viewer edition = classic.view_heading viewer edition
view_heading Csv viewer edition = csv.view_heading viewer edition
view_heading Json viewer edition = json.view_heading viewer edition
view_heading Table viewer edition = classic.view_heading viewer edition
