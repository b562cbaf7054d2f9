-- The schema that a line declares.
use Rattle.std.proofs.Common.{◌≡◌, ℕ, List, IsUtf8, None, refl, inl, inr}
use Rattle.std.proofs.lemmas.Bool.{cases_Bool}
use Rattle.std.proofs.lemmas.Str.{IsUtf8-from_is_utf8, is_utf8-from_IsUtf8}
use Rattle.std.specs.Str.{is_utf8}
use Rattle.reasons.specs.Books.{schema_in_text, schema_said}

pub said_in_text : (line : List ℕ) → IsUtf8 line → schema_said line ≡ schema_in_text line
said_in_text line utf8 = rw (is_utf8-from_IsUtf8 line utf8) refl

pub said_in_no_text : (line : List ℕ) → ¬ (IsUtf8 line) → schema_said line ≡ None
said_in_no_text line other = elim (cases_Bool (is_utf8 line)) [
  | inl text ↦ absurd (other (IsUtf8-from_is_utf8 line text))
  | inr none ↦ rw none refl
]
