-- What it takes to decide whether tokens begin with a phrase, and with which: each begins with one alone, or with none.
use Rattle.std.proofs.Common.{◌≡◌, ◌≢◌, ℕ, zero, suc, ◌<◌, ◌≤◌, Bool, true, false, List, [], ◌∷◌, length, Option, Some, None, ◌⊎◌, inl, inr, refl, sym, ap, ◌∙◌, arith}
use Rattle.std.specs.Prelude.{bytes_eq}
use Rattle.std.proofs.lemmas.Bool.{cases_Bool}
use Rattle.std.proofs.lemmas.Option.{none-some, some_pair_parts}
use Rattle.std.proofs.lemmas.Slice.Eq.{bytes_eq-Decides}
use Rattle.cells.specs.declared.token.Token.{Token}
use Rattle.cells.specs.declared.token.Token.TheVariants.{Word, Mark}
use Rattle.cells.specs.declared.token.Mark.TheVariants.{LeftParen, RightParen, Comma}
use Rattle.query.specs.Depth.{is_close, is_open}
use Rattle.query.specs.Grammar.{Separated, comma, lparen, rparen}
use Rattle.query.specs.Reading.{Any, Ends, Found, Nothing, Starts}
use Rattle.query.proofs.Lists.{Splits, Turns, closed, list_end, list_next, list_none, none_closed, not_closed, split_found, split_nothing, turn_found, turn_nothing}
use Rattle.query.proofs.PhrasesLemmas.{Computes}

-- one phrase with what follows it, and no other, or none
pub data Decided {X : Type 0} (S : X → List Token → Type 0) : Type 0 where
  one_phrase : (x : X) (rest : List Token) → Found S x rest → Decided S
  no_phrase : Nothing S → Decided S

pub turned : {X Y : Type 0} {S : X → List Token → Type 0} {T : Y → List Token → Type 0} {f : Y → X} → Turns S T f → Decided T → Decided S
turned {f = f} turns (one_phrase y rest h) = one_phrase (f y) rest (turn_found turns h)
turned turns (no_phrase h) = no_phrase (turn_nothing turns h)

pub split_decided : {X Y Z : Type 0} {S : Z → List Token → Type 0} {A : X → List Token → Type 0} {B : X → List Token → Y → List Token → Type 0} {join : X → Y → Z}
    → Splits S A B join → Decided A → ((x : X) (us : List Token) → Decided (B x us)) → Decided S
split_decided splits (one_phrase x us h) behind = turned (split_found splits h) (behind x us)
split_decided splits (no_phrase h) behind = no_phrase (split_nothing splits h)

-- ---- short phrases
pub computed_phrase : {X : Type 0} (Sp : List Token → X → List Token → Type 0) (ts : List Token) (o : Option (X × List Token)) → Computes Sp ts o → Decided (Starts Sp Any ts)
computed_phrase Sp ts None c = no_phrase (record { none = λ x r s. none-some (x, r) (c.complete x r s.spells) })
computed_phrase Sp ts (Some y) c = one_phrase y.0 y.1 (record {
  is = record { spells = c.sound y.0 y.1 refl; apart = tt };
  only = λ x r s. let parts = some_pair_parts x y.0 r y.1 (sym (c.complete x r s.spells)) in (parts.0, parts.1);
})

-- ---- what tokens begin with
abbrev pub BeginsAs : (List Token → List Token) → List Token → Type 0
BeginsAs f ts = ((more : List Token) × (ts ≡ f more)) ⊎ ((more : List Token) → ts ≢ f more)

abbrev pub Begins : Token → List Token → Type 0
Begins t ts = BeginsAs (λ more. t ∷ more) ts

-- a test that one token alone passes
begins_by : (p : Token → Bool) (t : Token) → p t ≡ true → ((u : Token) → p u ≡ true → u ≡ t) → (ts : List Token) → Begins t ts
begins_by p t self only [] = inr (λ r e. let bad : [] ≡ t ∷ r = e in cc)
begins_by p t self only (u ∷ us) = elim (cases_Bool (p u)) [
  | inl passes ↦ inl (us, ap (λ v. v ∷ us) (only u passes))
  | inr fails ↦ inr (λ r e.
      let same : u ≡ t = cc in
      let both : true ≡ false = sym self ∙ ap p (sym same) ∙ fails in
      cc)
]

abbrev is_comma : Token → Bool
is_comma (Mark Comma) = true
is_comma t = false

comma_alone : (u : Token) → is_comma u ≡ true → u ≡ comma
comma_alone (Mark Comma) e = refl
comma_alone u e = absurd (let bad : false ≡ true = e in cc)

open_alone : (u : Token) → is_open u ≡ true → u ≡ lparen
open_alone (Mark LeftParen) e = refl
open_alone u e = absurd (let bad : false ≡ true = e in cc)

close_alone : (u : Token) → is_close u ≡ true → u ≡ rparen
close_alone (Mark RightParen) e = refl
close_alone u e = absurd (let bad : false ≡ true = e in cc)

abbrev is_word : List ℕ → Token → Bool
is_word w (Word v) = bytes_eq v w
is_word w t = false

word_alone : (w : List ℕ) (u : Token) → is_word w u ≡ true → u ≡ Word w
word_alone w (Word v) e = ap Word ((bytes_eq-Decides v w).0 e)
word_alone w u e = absurd (let bad : false ≡ true = e in cc)

pub begins_comma : (ts : List Token) → Begins comma ts
begins_comma ts = begins_by is_comma comma refl comma_alone ts

pub begins_open : (ts : List Token) → Begins lparen ts
begins_open ts = begins_by is_open lparen refl open_alone ts

pub begins_close : (ts : List Token) → Begins rparen ts
begins_close ts = begins_by is_close rparen refl close_alone ts

pub begins_word : (w : List ℕ) (ts : List Token) → Begins (Word w) ts
begins_word w ts = begins_by (is_word w) (Word w) ((bytes_eq-Decides w w).1 refl) (word_alone w) ts

tail_same : (t : Token) (us vs : List Token) → t ∷ us ≡ t ∷ vs → us ≡ vs
tail_same t us vs e = cc

-- a token, and what the others begin with
pub begins_then : (t : Token) (f : List Token → List Token) → ((ts : List Token) → Begins t ts) → ((us : List Token) → BeginsAs f us) → (ts : List Token) → BeginsAs (λ more. t ∷ f more) ts
begins_then t f begins_first begins_others ts = after (begins_first ts) where
  behind : (us : List Token) → ts ≡ t ∷ us → BeginsAs f us → BeginsAs (λ more. t ∷ f more) ts
  behind us e (inl h) = inl (h.0, e ∙ ap (λ v. t ∷ v) h.1)
  behind us e (inr other) = inr (λ r g. other r (tail_same t us (f r) (sym e ∙ g)))

  after : Begins t ts → BeginsAs (λ more. t ∷ f more) ts
  after (inl h) = behind h.0 h.1 (begins_others h.0)
  after (inr other) = inr (λ r g. other (f r) g)

-- two tokens
abbrev pub BeginsBoth : Token → Token → List Token → Type 0
BeginsBoth t u ts = BeginsAs (λ more. t ∷ u ∷ more) ts

-- a word and "("
pub begins_call : (w : List ℕ) (ts : List Token) → BeginsBoth (Word w) lparen ts
begins_call w ts = begins_then (Word w) (λ more. lparen ∷ more) (begins_word w) begins_open ts

-- ---- up to a token that ends it
module _ {X : Type 0} (Sp : List Token → X → List Token → Type 0) (Apart : List Token → Type 0) (t : Token) (begins : (us : List Token) → Begins t us) (ts : List Token) (apart : (r : List Token) → Apart (t ∷ r)) where
  pub ended : Decided (Starts Sp Apart ts) → Decided (λ y r. Sp ts y (t ∷ r))
  ended (no_phrase h) = no_phrase (none_closed t ts apart h)
  ended (one_phrase x behind h) = after (begins behind) where
    after : Begins t behind → Decided (λ y r. Sp ts y (t ∷ r))
    after (inl b) = one_phrase x b.0 (closed t ts apart h b.0 b.1)
    after (inr other) = no_phrase (not_closed t ts apart h other)

-- ---- lists, of tokens that are no more than so many
module _ {X : Type 0} (sep : Token) (begins : (us : List Token) → Begins sep us) (Sp : List Token → X → List Token → Type 0) (Apart : List Token → Type 0) (free : (us : List Token) → Apart (sep ∷ us))
    (shorter : (ts : List Token) (x : X) (rest : List Token) → Sp ts x rest → length rest < length ts) (most : ℕ) (one : (ts : List Token) → length ts ≤ most → Decided (Starts Sp Apart ts)) where
  -- the list, by its first element, and by the list behind the separator
  list_by : (ts : List Token) → Decided (Starts Sp Apart ts) → ((us : List Token) → length us < length ts → Decided (Starts (Separated sep Sp) (Ends sep Apart) us)) → Decided (Starts (Separated sep Sp) (Ends sep Apart) ts)
  list_by ts (no_phrase h) others = no_phrase (list_none sep Sp Apart free h)
  list_by ts (one_phrase x behind h) others = after (begins behind) where
    after : Begins sep behind → Decided (Starts (Separated sep Sp) (Ends sep Apart) ts)
    after (inl b) = turned (list_next sep Sp Apart free h b.0 b.1) (others b.0 (omega (arith, shorter ts x behind (h.is).spells, ap length b.1)))
    after (inr other) = one_phrase (x ∷ []) behind (list_end sep Sp Apart free h other)

  list_within : (n : ℕ) (ts : List Token) → length ts ≤ n → length ts ≤ most → Decided (Starts (Separated sep Sp) (Ends sep Apart) ts)
  list_within zero ts le within = list_by ts (one ts within) (λ us lt. absurd (omega arith))
  list_within (suc n) ts le within = list_by ts (one ts within) (λ us lt. list_within n us (omega arith) (omega arith))

  pub list_decided : (ts : List Token) → length ts ≤ most → Decided (Starts (Separated sep Sp) (Ends sep Apart) ts)
  list_decided ts within = list_within most ts within within
