-- Words of the language's own, and bytes that are no text.
use Rattle.std.proofs.Common.{◌≡◌, ◌<◌, ℕ, Bool, true, false, List, [], ◌∷◌, ◌++◌, ◌&&◌, map, refl, sym, ap, subst, ◌∙◌, arith}
use Rattle.std.proofs.lemmas.Bool.Decides.{nat_tests}
use Rattle.std.proofs.lemmas.Str.{IsUtf8-from_ascii, IsUtf8-from_is_utf8, is_utf8-from_IsUtf8}
use Rattle.std.proofs.lemmas.Str.Ascii.{IsAscii-cons, IsAscii-nil, IsAscii-push, uppercase_ascii}
use Rattle.std.specs.Char.{to_ascii_uppercase}
use Rattle.std.specs.Prelude.{IsUtf8, codes, if◌then◌else◌}
use Rattle.std.specs.Str.{IsAscii, is_utf8}
use Rattle.cells.specs.Schemas.{is_reserved}
use Rattle.cells.specs.Spelling.{is_in_word}
use Rattle.prepare.specs.Words.{apart, begins_word, begun, is_taken, word_byte, word_of}

pub taken_text : (word text : List ℕ) → text ≡ word → IsUtf8 word → is_reserved text ≡ is_taken word
taken_text word text same text_is =
    ap is_reserved same ∙ ap (λ (b : Bool). b && is_reserved word) (sym (is_utf8-from_IsUtf8 word text_is))

pub taken_other : (word : List ℕ) → (IsUtf8 word → ⊥) → false ≡ is_taken word
taken_other word none = go (is_utf8 word) refl where
  go : (b : Bool) → is_utf8 word ≡ b → false ≡ (b && is_reserved word)
  go true e = absurd (none (IsUtf8-from_is_utf8 word e))
  go false e = refl

-- ---- a word is ASCII

byte_ascii : (b : ℕ) → word_byte b < 128
byte_ascii b = go (is_in_word b) refl where
  go : (test : Bool) → is_in_word b ≡ test → (if test then to_ascii_uppercase b else 95) < 128
  go true e = let low : b < 128 = grind (arith, nat_tests) in uppercase_ascii b low
  go false e = omega arith

bytes_ascii : (name : List ℕ) → IsAscii (map word_byte name)
bytes_ascii [] = IsAscii-nil
bytes_ascii (b ∷ bs) = IsAscii-cons (word_byte b) (map word_byte bs) (byte_ascii b) (bytes_ascii bs)

begun_ascii : (bytes : List ℕ) → IsAscii bytes → IsAscii (begun bytes)
begun_ascii bytes ascii = go (begins_word bytes) where
  go : (test : Bool) → IsAscii (if test then bytes else 95 ∷ bytes)
  go true = ascii
  go false = IsAscii-cons 95 bytes (omega arith) ascii

apart_ascii : (word : List ℕ) → IsAscii word → IsAscii (apart word)
apart_ascii word ascii = go (is_taken word) where
  go : (test : Bool) → IsAscii (if test then word ++ codes "_" else word)
  go true = IsAscii-push word 95 ascii (omega arith)
  go false = ascii

word_utf8 : (name : List ℕ) → IsUtf8 (word_of name)
word_utf8 name = IsUtf8-from_ascii (word_of name) (apart_ascii (begun (map word_byte name)) (begun_ascii (map word_byte name) (bytes_ascii name)))

-- so a word is never no text
pub word_other : (word name : List ℕ) → word ≡ word_of name → (IsUtf8 word → ⊥) → ⊥
word_other word name same none = none (subst IsUtf8 (sym same) (word_utf8 name))
