-- Quotes that are doubled, part by part.
use Rattle.std.proofs.Common.{◌≡◌, ℕ, List, [], ◌∷◌, ◌++◌, refl, sym, ap, ◌∙◌, append_assoc, append-nil}
use Rattle.cells.specs.Spelling.{doubled}
use Rattle.cells.proofs.QuotesLemmas.{NoQuote, no_quote_first, no_quote_rest}

-- bytes without a quote stand as they are
doubled_part : (part text : List ℕ) → NoQuote part → doubled (part ++ text) ≡ part ++ doubled text
doubled_part [] text plain = refl
doubled_part (b ∷ bs) text plain =
    let other = no_quote_first b bs plain in
    rw other (ap (λ l. b ∷ l) (doubled_part bs text (no_quote_rest b bs plain)))

pub doubled_plain : (text : List ℕ) → NoQuote text → doubled text ≡ text
doubled_plain text plain = ap doubled (sym (append-nil text)) ∙ doubled_part text [] plain ∙ append-nil text

-- the loop's step: a part, and its quote twice
pub doubled_more : (front part behind rest : List ℕ) → rest ≡ part ++ 39 ∷ behind → NoQuote part →
    ((front ++ part) ++ 39 ∷ 39 ∷ []) ++ doubled behind ≡ front ++ doubled rest
doubled_more front part behind rest is plain =
    append_assoc (front ++ part) (39 ∷ 39 ∷ []) (doubled behind)
    ∙ append_assoc front part (39 ∷ 39 ∷ doubled behind)
    ∙ ap (λ l. front ++ l) (sym (doubled_part part (39 ∷ behind) plain) ∙ ap doubled (sym is))
