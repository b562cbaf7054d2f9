-- The characters of a text, read one after another.
use Rattle.std.proofs.Common.{◌≡◌, ◌++◌, ◌∷◌, ◌∙◌, ℕ, List, [], ap, append-nil, append_assoc, length, sym}
use Rattle.std.proofs.lemmas.Grind.{flat_map-append}
use Rattle.std.proofs.lemmas.List.Concat.{flat_map-cons}
use Rattle.std.proofs.lemmas.Str.{chars_from_encodes, encodes-append}
use Rattle.std.specs.Char.{encode_utf8}
use Rattle.std.specs.List.{flat_map}
use Rattle.std.specs.Prelude.{IsUtf8}
use Rattle.std.specs.Str.{chars, encode_utf8_all}

pub spelt_more : (text read left rest : List ℕ) (c : ℕ) → encode_utf8_all read ++ left ≡ text → left ≡ encode_utf8 c ++ rest → encode_utf8_all (read ++ c ∷ []) ++ rest ≡ text
spelt_more text read left rest c so_far next =
    ap (λ front. front ++ rest) (encodes-append read (c ∷ []) ∙ ap (λ last. encode_utf8_all read ++ last) (append-nil (encode_utf8 c)))
    ∙ append_assoc (encode_utf8_all read) (encode_utf8 c) rest ∙ ap (λ more. encode_utf8_all read ++ more) (sym next) ∙ so_far

pub spelt_all : (text read left : List ℕ) → IsUtf8 text → encode_utf8_all read ++ left ≡ text → length left ≡ 0 → read ≡ chars text
spelt_all text read [] utf8 so_far none = chars_from_encodes read text utf8 (sym (append-nil (encode_utf8_all read)) ∙ so_far)
spelt_all text read (b ∷ left) utf8 so_far none = absurd cc

pub made_more : (f : ℕ → List ℕ) (made more read : List ℕ) (c : ℕ) → made ≡ flat_map f read → more ≡ made ++ f c → more ≡ flat_map f (read ++ c ∷ [])
made_more f made more read c so_far is =
    is ∙ ap (λ front. front ++ f c) so_far
    ∙ sym (flat_map-append f read (c ∷ []) ∙ ap (λ last. flat_map f read ++ last) (flat_map-cons f c [] ∙ append-nil (f c)))
