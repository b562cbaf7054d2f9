-- What contracts see of a text.
use Rattle.std.specs.Prelude.{ℕ, List, string_bytes}
use Rattle.cells.specs.declared.text.Form.TheVariants as form
use Rattle.cells.specs.declared.text.Form.{Form}

-- its bytes, wherever they lie
abbrev pub text_bytes : Form → List ℕ
text_bytes (form.Short text) = text
text_bytes (form.Long text) = string_bytes text.value
