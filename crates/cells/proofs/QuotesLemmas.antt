-- A quoted text, behind its first quote.
use Rattle.std.proofs.Common.{◌≡◌, ◌≢◌, ℕ, suc, ◌<◌, ◌≤◌, true, false, ◌==◌, List, [], ◌∷◌, ◌++◌, length, drop, get_or, Option, Some, None, inl, inr, refl, sym, ap, ◌∙◌, arith, append_assoc, append-nil, nat_le, slice_index}
use Rattle.std.proofs.lemmas.Bool.{cases_Bool, eqb-true}
use Rattle.std.proofs.lemmas.Bool.Decides.{nat_tests}
use Rattle.std.proofs.lemmas.Option.{none-some, some_pair_parts}
use Rattle.cells.specs.declared.token.Token.{Token}
use Rattle.cells.specs.declared.token.Token.TheVariants.{Quoted}
use Rattle.cells.specs.Limits.{text_limit}
use Rattle.cells.specs.Spelling.{Begins, doubled}
use Rattle.cells.specs.Scanning.{after, bounded, quoted_at, unquoted}
use Rattle.cells.proofs.BeginsLemmas.{begins_found}

abbrev Read : Type 0
Read = Option (List ℕ × List ℕ)

-- no quote is among the bytes
abbrev pub NoQuote : List ℕ → Type 0
NoQuote bs = (i : ℕ) → i < length bs → get_or bs i 0 ≡ 39 → ⊥

after_nothing : (o : Read) → after [] o ≡ o
after_nothing None = refl
after_nothing (Some x) = refl

after_after : (a b : List ℕ) (o : Read) → after a (after b o) ≡ after (a ++ b) o
after_after a b None = refl
after_after a b (Some x) = ap (λ l. Some (l, x.1)) (sym (append_assoc a b x.0))

-- what is read behind some bytes ends with what is read
after_some : (a : List ℕ) (o : Read) (s rest : List ℕ) → after a o ≡ Some (s, rest) → (t : List ℕ) × (o ≡ Some (t, rest)) × (s ≡ a ++ t)
after_some a None s rest e = absurd (cc)
after_some a (Some y) s rest e =
    let parts = some_pair_parts (a ++ y.0) s y.1 rest e in
    (y.0, ap (λ r. Some (y.0, r)) parts.1, sym parts.0)

-- a byte that is no quote stands for itself
unquoted_other : (b : ℕ) (bs : List ℕ) → (b == 39) ≡ false → unquoted (b ∷ bs) ≡ after (b ∷ []) (unquoted bs)
unquoted_other b [] e = rw e refl
unquoted_other b (c ∷ bs) e = rw e refl

pub no_quote_first : (b : ℕ) (bs : List ℕ) → NoQuote (b ∷ bs) → (b == 39) ≡ false
no_quote_first b bs h = let differs : b ≢ 39 = h 0 (omega arith) in grind (arith, nat_tests)

pub no_quote_rest : (b : ℕ) (bs : List ℕ) → NoQuote (b ∷ bs) → NoQuote bs
no_quote_rest b bs h i lt = h (suc i) (omega arith)

unquoted_part : (part text : List ℕ) → NoQuote part → unquoted (part ++ text) ≡ after part (unquoted text)
unquoted_part [] text h = sym (after_nothing (unquoted text))
unquoted_part (b ∷ bs) text h =
    unquoted_other b (bs ++ text) (no_quote_first b bs h)
    ∙ ap (after (b ∷ [])) (unquoted_part bs text (no_quote_rest b bs h))
    ∙ after_after (b ∷ []) bs (unquoted text)

-- a text that no quote closes is not read
pub unquoted_none : (text : List ℕ) → NoQuote text → unquoted text ≡ None
unquoted_none [] h = refl
unquoted_none (b ∷ bs) h = unquoted_other b bs (no_quote_first b bs h) ∙ ap (after (b ∷ [])) (unquoted_none bs (no_quote_rest b bs h))

pub no_quote_in_front : (text : List ℕ) → ((r : List ℕ) → text ≡ 39 ∷ r → ⊥) → (slice_index text 0 == 39) ≡ false
no_quote_in_front [] last = refl
no_quote_in_front (c ∷ cs) last = let differs : c ≢ 39 = λ e. last cs (ap (λ v. v ∷ cs) e) in grind (arith, nat_tests)

-- a quote that is not doubled closes the text
unquoted_end : (text : List ℕ) → (slice_index text 0 == 39) ≡ false → unquoted (39 ∷ text) ≡ Some ([], text)
unquoted_end [] h = refl
unquoted_end (c ∷ cs) h = rw h refl

-- the text stands before this one, as s, closed by a quote that no other follows
record Closes (text s rest : List ℕ) : Type 0 where
  spelt : text ≡ doubled s ++ 39 ∷ rest
  last : (slice_index rest 0 == 39) ≡ false

closes_end : (b : ℕ) (text s rest : List ℕ) → ◌≡◌ {A = Read} (Some ([], text)) (Some (s, rest)) → (slice_index text 0 == 39) ≡ false → b ≡ 39 → Closes (b ∷ text) s rest
closes_end b text s rest e last is_quote =
    let parts = some_pair_parts [] s text rest e in
    let empty = sym parts.0 in
    let behind = sym parts.1 in
    record { spelt = rw (empty, behind, is_quote) refl; last = rw behind last }

closes_quote : (b c : ℕ) (text s t rest : List ℕ) → s ≡ 39 ∷ t → Closes text t rest → b ≡ 39 → c ≡ 39 → Closes (b ∷ c ∷ text) s rest
closes_quote b c text s t rest is closes first second =
    record { spelt = let spelt = closes.spelt in rw (is, spelt, first, second) refl; last = closes.last }

closes_other : (b : ℕ) (text s t rest : List ℕ) → s ≡ b ∷ t → Closes text t rest → (b == 39) ≡ false → Closes (b ∷ text) s rest
closes_other b text s t rest is closes other =
    record { spelt = let spelt = closes.spelt in rw (is, spelt, other) refl; last = closes.last }

-- what is read is spelt so
unquoted_closes : (text s rest : List ℕ) → unquoted text ≡ Some (s, rest) → Closes text s rest
unquoted_closes [] s rest e = absurd (cc)
unquoted_closes (b ∷ []) s rest e = elim (cases_Bool (b == 39)) [
  | inl quote ↦ closes_end b [] s rest (rw quote at e) refl (eqb-true b 39 quote)
  | inr other ↦ absurd (none-some _ (rw other at e))
]
unquoted_closes (b ∷ c ∷ bs) s rest e = elim (cases_Bool (b == 39)) [
  | inl quote ↦ elim (cases_Bool (c == 39)) [
    | inl again ↦ let y = after_some (39 ∷ []) (unquoted bs) s rest (rw (quote, again) at e) in
        closes_quote b c bs s y.0 rest y.2 (unquoted_closes bs y.0 rest y.1) (eqb-true b 39 quote) (eqb-true c 39 again)
    | inr last ↦ closes_end b (c ∷ bs) s rest (rw (quote, last) at e) last (eqb-true b 39 quote)
  ]
  | inr other ↦ let y = after_some (b ∷ []) (unquoted (c ∷ bs)) s rest (rw other at e) in
      closes_other b (c ∷ bs) s y.0 rest y.2 (unquoted_closes (c ∷ bs) y.0 rest y.1) other
]

-- what is spelt so is read
unquoted_doubled : (s rest : List ℕ) → (slice_index rest 0 == 39) ≡ false → unquoted (doubled s ++ 39 ∷ rest) ≡ Some (s, rest)
unquoted_doubled [] rest h = unquoted_end rest h
unquoted_doubled (b ∷ bs) rest h =
    let others = unquoted_doubled bs rest h in
    elim (cases_Bool (b == 39)) [
      | inl quote ↦ rw quote (ap (after (39 ∷ [])) others ∙ ap (λ v. Some (v ∷ bs, rest)) (sym (eqb-true b 39 quote)))
      | inr other ↦ rw other (unquoted_other b (doubled bs ++ 39 ∷ rest) other ∙ ap (after (b ∷ [])) others)
    ]

-- the loop's last step: the part before the next quote ends the text
pub part_ends : (front part behind rest : List ℕ) → rest ≡ part ++ 39 ∷ behind → NoQuote part → ((r : List ℕ) → behind ≡ 39 ∷ r → ⊥) → after front (unquoted rest) ≡ Some (front ++ part, behind)
part_ends front part behind rest e plain last =
    ap (λ t. after front (unquoted t)) e
    ∙ ap (after front) (unquoted_part part (39 ∷ behind) plain)
    ∙ after_after front part (unquoted (39 ∷ behind))
    ∙ ap (after (front ++ part)) (unquoted_end behind (no_quote_in_front behind last))
    ∙ ap (λ l. Some (l, behind)) (append-nil (front ++ part))

-- its other steps: behind the part stands a doubled quote
pub part_goes_on : (front part behind more rest : List ℕ) → rest ≡ part ++ 39 ∷ behind → NoQuote part → behind ≡ 39 ∷ more → after front (unquoted rest) ≡ after ((front ++ part) ++ 39 ∷ []) (unquoted more)
part_goes_on front part behind more rest e plain again =
    ap (λ t. after front (unquoted t)) e
    ∙ ap (after front) (unquoted_part part (39 ∷ behind) plain)
    ∙ after_after front part (unquoted (39 ∷ behind))
    ∙ ap (λ t. after (front ++ part) (unquoted (39 ∷ t))) again
    ∙ after_after (front ++ part) (39 ∷ []) (unquoted more)

-- the text that was read, o: the token that is made of it stands at the front
quoted_here : (text rest : List ℕ) (t : Token) (o : Read) → unquoted text ≡ o → bounded o ≡ Some (t, rest) → Begins (39 ∷ text) t rest
quoted_here text rest t None is e = absurd (none-some _ e)
quoted_here text rest t (Some x) is e = elim (cases_Bool (nat_le (length x.0) text_limit)) [
  | inl short ↦ let closes = unquoted_closes text x.0 x.1 is in
      begins_found (39 ∷ text) (Quoted x.0) t x.1 rest (rw short at e)
      (39 ∷ (doubled x.0 ++ 39 ∷ []), (grind (arith, nat_tests), refl), closes.last, ap (λ l. 39 ∷ l) (closes.spelt ∙ sym (append_assoc (doubled x.0) (39 ∷ []) x.1)))
  | inr long ↦ absurd (none-some _ (rw long at e))
]

pub quote_in_front : (text : List ℕ) → (slice_index text 0 == 39) ≡ true → text ≡ 39 ∷ drop 1 text
quote_in_front [] h = absurd (cc)
quote_in_front (b ∷ bs) h = ap (λ v. v ∷ bs) (eqb-true b 39 h)

-- a quoted text that is read stands at the front
pub quoted_begins : (text : List ℕ) (t : Token) (rest : List ℕ) → quoted_at text ≡ Some (t, rest) → Begins (39 ∷ text) t rest
unfolding quoted_at
quoted_begins text t rest e = quoted_here text rest t (unquoted text) refl e

-- a quoted text that stands at the front, closed and short enough, is read
pub quoted_read : (s rest : List ℕ) → length s ≤ text_limit → (slice_index rest 0 == 39) ≡ false → quoted_at (doubled s ++ 39 ∷ rest) ≡ Some (Quoted s, rest)
unfolding quoted_at
quoted_read s rest small last =
    let short : nat_le (length s) text_limit ≡ true = grind (arith, nat_tests) in
    ap bounded (unquoted_doubled s rest last) ∙ rw short refl
