-- The token at the front of a text, and the tokens of a text: what is read is what the definitions say.
use Rattle.std.proofs.Common.{◌≡◌, ◌⊎◌, inl, inr, ℕ, ◌<◌, true, false, ◌||◌, ◌==◌, List, [], ◌∷◌, ◌++◌, length, drop, Option, Some, None, refl, sym, ap, ◌∙◌, subst, arith, append_assoc, append-nil, length-append, slice_index}
use Rattle.std.specs.Char.{is_ascii_digit}
use Rattle.std.proofs.lemmas.Bool.Decides.{nat_tests}
use Rattle.std.proofs.lemmas.Option.{none-some, some_pair_parts}
use Rattle.cells.specs.declared.token.Mark.{Mark as Sign}
use Rattle.cells.specs.declared.token.Mark.TheVariants.{LeftParen, RightParen, Comma, Asterisk, Equals, NotEquals, LessThanOrEquals, GreaterThanOrEquals, LessThan, GreaterThan}
use Rattle.cells.specs.declared.token.Token.{Token}
use Rattle.cells.specs.declared.token.Token.TheVariants.{Word, Number, Quoted, Mark}
use Rattle.cells.specs.declared.token.TokenFault.{TokenFault}
use Rattle.cells.specs.declared.token.TokenFault.TheVariants.{Bad, Memory}
use Rattle.cells.specs.Scanning.{mark_at, number_at, quoted_at, token_at, word_at}
use Rattle.cells.specs.Spelling.{Begins, IsApart, IsForm, Spells, SpellsRest, doubled, is_blank, is_letter, sign, without_blanks}
use Rattle.cells.proofs.BeginsLemmas.{begins_along}
use Rattle.cells.proofs.ChoicesLemmas.{by_branch}
use Rattle.cells.proofs.MarksLemmas.{mark_begins, mark_read, sign_nonempty}
use Rattle.cells.proofs.NumbersLemmas.{number_begins, number_first, number_read}
use Rattle.cells.proofs.QuotesLemmas.{no_quote_in_front, quote_in_front, quoted_begins, quoted_read}
use Rattle.cells.proofs.RunsLemmas.{past_shorter}
use Rattle.cells.proofs.WordsLemmas.{word_begins, word_read}

token_word : (text : List ℕ) → is_letter (slice_index text 0) ≡ true → token_at text ≡ word_at text
unfolding token_at
token_word text letter = rw letter refl

no_letter : (b : ℕ) → (is_ascii_digit b || b == 45) ≡ true → is_letter b ≡ false
no_letter b h = grind (arith, nat_tests)

token_number : (text : List ℕ) → (is_ascii_digit (slice_index text 0) || slice_index text 0 == 45) ≡ true → token_at text ≡ number_at text
unfolding token_at
token_number text first = rw (no_letter (slice_index text 0) first, first) refl

token_quote : (bs : List ℕ) → token_at (39 ∷ bs) ≡ quoted_at bs
unfolding token_at
token_quote bs = refl

-- what is neither a word, a number nor a text is a sign
pub token_mark : (text : List ℕ) → is_letter (slice_index text 0) ≡ false → (is_ascii_digit (slice_index text 0) || slice_index text 0 == 45) ≡ false → ((r : List ℕ) → text ≡ 39 ∷ r → ⊥) → token_at text ≡ mark_at text
unfolding token_at
token_mark text no_word no_number no_quote = rw (no_word, no_number, no_quote_in_front text no_quote) refl

token_sign : (m : Sign) (rest : List ℕ) → token_at (sign m ++ rest) ≡ mark_at (sign m ++ rest)
unfolding token_at
token_sign LeftParen rest = refl
token_sign other rest = refl

-- a token that is read stands at the front
pub token_begins : (text : List ℕ) (t : Token) (rest : List ℕ) → token_at text ≡ Some (t, rest) → Begins text t rest
unfolding token_at
token_begins text t rest e =
    by_branch (is_letter (slice_index text 0)) (word_at text) _ _ e (word_begins text t rest) (λ _ e.
    by_branch (is_ascii_digit (slice_index text 0) || slice_index text 0 == 45) (number_at text) _ _ e (λ _. number_begins text t rest) (λ _ e.
    by_branch (slice_index text 0 == 39) (quoted_at (drop 1 text)) _ _ e (λ quote e. begins_along (39 ∷ drop 1 text) text t rest (quote_in_front text quote) (quoted_begins (drop 1 text) t rest e)) (λ _.
    mark_begins text t rest)))

-- a form that stands at the front, with nothing joined to it, is read
form_read : (t : Token) (form rest : List ℕ) → IsForm t form → IsApart t rest → token_at (form ++ rest) ≡ Some (t, rest)
form_read (Word name) [] rest f apart = absurd f.0
form_read (Word name) (b ∷ bs) rest f apart =
    token_word (b ∷ (bs ++ rest)) f.0.0 ∙ word_read (b ∷ bs) rest f.0 apart ∙ ap (λ l. Some (Word l, rest)) (sym f.1)
form_read (Number n) [] rest f apart = absurd (none-some n f)
form_read (Number n) (b ∷ bs) rest f apart = token_number (b ∷ (bs ++ rest)) (number_first (b ∷ bs) n f) ∙ number_read (b ∷ bs) rest n f apart
form_read (Quoted s) form rest f apart =
    ap (λ l. token_at (l ++ rest)) f.1
    ∙ ap (λ l. token_at (39 ∷ l)) (append_assoc (doubled s) (39 ∷ []) rest)
    ∙ token_quote (doubled s ++ 39 ∷ rest)
    ∙ quoted_read s rest f.0 apart
form_read (Mark m) form rest f apart = ap (λ l. token_at (l ++ rest)) f ∙ token_sign m rest ∙ mark_read m rest apart

-- a token that stands at the front is read
pub token_read : (text : List ℕ) (t : Token) (rest : List ℕ) → Begins text t rest → token_at text ≡ Some (t, rest)
token_read text t rest x = ap token_at x.3 ∙ form_read t x.0 rest x.1 x.2

token_nothing : token_at [] ≡ None
unfolding token_at mark_at
token_nothing = refl

form_nonempty : (t : Token) (form : List ℕ) → IsForm t form → 0 < length form
form_nonempty (Word name) [] f = absurd f.0
form_nonempty (Word name) (b ∷ bs) f = omega arith
form_nonempty (Number n) [] f = absurd (none-some n f)
form_nonempty (Number n) (b ∷ bs) f = omega arith
form_nonempty (Quoted s) form f = let same_length = ap length f.1 in omega arith
form_nonempty (Mark m) form f = subst (λ l. 0 < length l) (sym f) (sign_nonempty m)

begins_shorter : (text : List ℕ) (t : Token) (rest : List ℕ) → Begins text t rest → length rest < length text
begins_shorter text t rest x =
    let parts = ap length x.3 ∙ length-append x.0 rest in
    let some = form_nonempty t x.0 x.1 in
    omega arith

-- what follows a token, without its blanks, is shorter
pub token_shorter : (text : List ℕ) (t : Token) (rest : List ℕ) → token_at text ≡ Some (t, rest) → length (without_blanks rest) < length text
token_shorter text t rest e =
    let behind = begins_shorter text t rest (token_begins text t rest e) in
    let unblanked = past_shorter is_blank rest in
    omega arith

-- tokens of a text that begins with a token begin with it
spells_less : (text : List ℕ) (t : Token) (rest : List ℕ) (ts : List Token) → token_at text ≡ Some (t, rest) → SpellsRest text ts → (us : List Token) × (ts ≡ t ∷ us) × SpellsRest (without_blanks rest) us
spells_less text t rest [] e h = absurd (none-some _ (sym token_nothing ∙ ap token_at (sym h) ∙ e))
spells_less text t rest (u ∷ us) e h =
    let same = some_pair_parts t u rest h.0 (sym e ∙ token_read text u h.0 h.1) in
    (us, ap (λ v. v ∷ us) (sym same.0), subst (λ r. SpellsRest (without_blanks r) us) (sym same.1) h.2)

-- a text that is not empty, and begins with no token, spells none
spells_none : (text : List ℕ) (ts : List Token) → 0 < length text → token_at text ≡ None → SpellsRest text ts → ⊥
spells_none text [] some e h = let same_length = ap length h in omega arith
spells_none text (t ∷ ts) some e h = none-some _ (sym e ∙ token_read text t h.0 h.1)

pub spells_nothing : (us : List Token) → SpellsRest [] us → us ≡ []
spells_nothing [] h = refl
spells_nothing (u ∷ us) h = absurd (let shorter = begins_shorter [] u h.0 h.1 in omega arith)

-- the text spells what was found and then what the rest spells, and nothing else
pub record Kept (text : List ℕ) (found : List Token) (rest : List ℕ) : Type 0 where
  pub sound : (ts : List Token) → SpellsRest rest ts → Spells text (found ++ ts)
  pub complete : (ts : List Token) → Spells text ts → (us : List Token) × (ts ≡ found ++ us) × SpellsRest rest us

pub kept_first : (text rest : List ℕ) → rest ≡ without_blanks text → Kept text [] rest
kept_first text rest e = record {
  sound = λ ts h. subst (λ r. SpellsRest r ts) e h;
  complete = λ ts h. (ts, refl, subst (λ r. SpellsRest r ts) (sym e) h);
}

pub kept_more : (text rest behind next : List ℕ) (found more : List Token) (t : Token) → token_at rest ≡ Some (t, behind) → more ≡ found ++ t ∷ [] → next ≡ without_blanks behind → Kept text found rest → Kept text more next
kept_more text rest behind next found more t e m n kept =
    rw (m, n) (record {
      sound = λ ts h. subst (Spells text) (sym (append_assoc found (t ∷ []) ts)) (kept.sound (t ∷ ts) (behind, token_begins rest t behind e, h));
      complete = λ ts h.
          let all = kept.complete ts h in
          let others = spells_less rest t behind all.0 e all.2 in
          (others.0, all.1 ∙ ap (λ v. found ++ v) others.1 ∙ sym (append_assoc found (t ∷ []) others.0), others.2);
    })

-- at the end of the text what was found is what it spells
pub kept_found : (text rest : List ℕ) (found : List Token) → Kept text found rest → rest ≡ [] → Spells text found
kept_found text rest found kept e = subst (Spells text) (append-nil found) (kept.sound [] e)

pub kept_only : (text rest : List ℕ) (found : List Token) → Kept text found rest → rest ≡ [] → (ts : List Token) → Spells text ts → ◌≡◌ {A = Option (List Token)} (Some ts) (Some found)
kept_only text rest found kept e ts h =
    let all = kept.complete ts h in
    ap Some (all.1 ∙ ap (λ v. found ++ v) (spells_nothing all.0 (subst (λ r. SpellsRest r all.0) e all.2)) ∙ append-nil found)

-- where no token is read, the text spells none, or memory is wanting
pub kept_fails : (text rest : List ℕ) (found : List Token) (e : TokenFault) → Kept text found rest → 0 < length rest
    → (e ≡ Memory) ⊎ ((e ≡ Bad) × (token_at rest ≡ None)) → (ts : List Token) → Spells text ts → (e ≡ Memory) ⊎ ((e ≡ Bad) × (◌≡◌ {A = Option (List Token)} (Some ts) None))
kept_fails text rest found e kept some (inl memory) ts h = inl memory
kept_fails text rest found e kept some (inr bad) ts h = let all = kept.complete ts h in absurd (spells_none rest all.0 some bad.1 all.2)
