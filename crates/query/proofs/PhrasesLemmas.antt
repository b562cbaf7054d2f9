-- Short phrases: the functions give what the rules say.
use Rattle.std.proofs.Common.{◌≡◌, ℕ, true, false, List, ◌∷◌, Option, Some, None, inl, inr, refl, sym, ap, ◌∙◌, subst}
use Rattle.std.specs.Prelude.{bytes_eq, codes, Result, Ok, Err}
use Rattle.std.proofs.lemmas.Bool.{cases_Bool}
use Rattle.std.proofs.lemmas.Option.{none-some, some_pair_parts, same_Some}
use Rattle.std.proofs.lemmas.Slice.Eq.{bytes_eq-Decides}
use Rattle.cells.specs.Refusals.{AnswersBy}
use Rattle.cells.specs.Schemas.{is_reserved}
use Rattle.cells.specs.declared.refused.Refused.{Refused}
use Rattle.cells.specs.declared.refused.Refused.TheVariants.{QuerySyntax}
use Rattle.cells.specs.declared.token.Token.{Token}
use Rattle.cells.specs.declared.token.Token.TheVariants.{Word, Number, Quoted, Mark}
use Rattle.cells.specs.declared.token.Mark.TheVariants.{LeftParen, RightParen, Asterisk, Equals, NotEquals, LessThanOrEquals, GreaterThanOrEquals, LessThan, GreaterThan}
use Rattle.query.specs.Grammar.{DISTINCT, GROUPING, SpellsName, name, SpellsItem, column, grouping, count_rows, count, count_distinct, sum, min, max, SpellsLiteral, number, text, SpellsComparison, equal, not_equal, less, less_or_equal, greater, greater_or_equal}
use Rattle.query.specs.declared.test.Literal.{Literal}
use Rattle.query.specs.declared.test.Literal.TheVariants as literal
use Rattle.query.specs.declared.test.Comparison.{Comparison}
use Rattle.query.specs.declared.test.Comparison.TheVariants as comparison
use Rattle.query.specs.Phrases.{name_at, call_of, call_at, item_at, rows_at, distinct_at, named_at, with_rest, literal_at, comparison_at}
use Rattle.query.specs.Reading.{Any, BeginsNotCall, Starts, ReadsPhrase}
use Rattle.query.specs.declared.item.Item.{Item}
use Rattle.query.specs.declared.item.Item.TheVariants as item

-- the function gives what the rules say
pub record Computes {X : Type 0} (Sp : List Token → X → List Token → Type 0) (ts : List Token) (o : Option (X × List Token)) : Type 0 where
  pub sound : (x : X) (rest : List Token) → o ≡ Some (x, rest) → Sp ts x rest
  pub complete : (x : X) (rest : List Token) → Sp ts x rest → o ≡ Some (x, rest)

pub computed : {X Y : Type 0} (Sp : List Token → X → List Token → Type 0) (view : Y → X × List Token) (ts : List Token) (o : Option (X × List Token)) (r : Result Y Refused)
    → Computes Sp ts o → AnswersBy view QuerySyntax o r → ReadsPhrase view (Starts Sp Any ts) r
computed Sp view ts o (Ok y) c h = record {
  is = record { spells = c.sound (view y).0 (view y).1 h; apart = tt };
  only = λ x rest s.
      let parts = some_pair_parts x (view y).0 rest (view y).1 (sym (c.complete x rest s.spells) ∙ h) in
      (parts.0, parts.1);
}
computed Sp view ts o (Err e) c (inl memory) = inl memory
computed Sp view ts o (Err e) c (inr fault) = inr (fault.0, record { none = λ x rest s. none-some (x, rest) (sym fault.1 ∙ c.complete x rest s.spells) })

pub same_word : (a b : List ℕ) → bytes_eq a b ≡ true → a ≡ b
same_word a b e = (bytes_eq-Decides a b).0 e

-- ---- names
name_sound : (ts : List Token) (n : List ℕ) (rest : List Token) → name_at ts ≡ Some (n, rest) → SpellsName ts n rest
name_sound (Word w ∷ us) n rest e = elim (cases_Bool (is_reserved w)) [
  | inl reserved ↦ absurd (none-some (n, rest) (rw reserved at e))
  | inr free ↦
      let parts = some_pair_parts w n us rest (rw free at e) in
      rw (sym parts.0, sym parts.1) (name free)
]
name_sound ts n rest e = absurd (none-some (n, rest) e)

name_complete : {ts : List Token} {n : List ℕ} {rest : List Token} → SpellsName ts n rest → name_at ts ≡ Some (n, rest)
name_complete (name free) = rw free refl

pub name_computes : (ts : List Token) → Computes SpellsName ts (name_at ts)
name_computes ts = record { sound = name_sound ts; complete = λ n rest s. name_complete s }

-- ---- items
-- a name is no reserved word
pub not_reserved : (w n : List ℕ) → is_reserved w ≡ true → is_reserved n ≡ false → bytes_eq n w ≡ false
not_reserved w n is free = elim (cases_Bool (bytes_eq n w)) [
  | inl hit ↦ absurd (let both : true ≡ false = sym is ∙ ap is_reserved (sym (same_word n w hit)) ∙ free in cc)
  | inr miss ↦ miss
]

not_distinct : (n : List ℕ) → is_reserved n ≡ false → bytes_eq n (codes "DISTINCT") ≡ false
not_distinct n free = not_reserved (codes "DISTINCT") n refl free

-- the items but GROUPING
item_complete : {ts : List Token} {i : Item (List ℕ)} {rest : List Token} → SpellsItem ts i rest → BeginsNotCall GROUPING ts → item_at ts ≡ Some (i, rest)
unfolding item_at
item_complete (column {n = n} free) other = rw free refl
item_complete (grouping {ts = us} h) other = absurd (other us refl)
item_complete count_rows other = refl
item_complete (count {n = n} free) other = rw (free, not_distinct n free) refl
item_complete (count_distinct {n = n} free) other = rw free refl
item_complete (sum {n = n} free) other = rw (free, not_distinct n free) refl
item_complete (min {n = n} free) other = rw (free, not_distinct n free) refl
item_complete (max {n = n} free) other = rw (free, not_distinct n free) refl

call_sound : (w n : List ℕ) (i : Item (List ℕ)) (rest : List Token) → is_reserved n ≡ false → call_of w n ≡ Some i → SpellsItem (Word w ∷ Mark LeftParen ∷ Word n ∷ Mark RightParen ∷ rest) i rest
call_sound w n i rest free e =
    elim (cases_Bool (bytes_eq w (codes "COUNT"))) [
      | inl hit ↦ rw (same_word w (codes "COUNT") hit, sym (same_Some (item.Count n) i (rw hit at e))) (count free)
      | inr c ↦ elim (cases_Bool (bytes_eq w (codes "SUM"))) [
        | inl hit ↦ rw (same_word w (codes "SUM") hit, sym (same_Some (item.Sum n) i (rw (c, hit) at e))) (sum free)
        | inr s ↦ elim (cases_Bool (bytes_eq w (codes "MIN"))) [
          | inl hit ↦ rw (same_word w (codes "MIN") hit, sym (same_Some (item.Min n) i (rw (c, s, hit) at e))) (min free)
          | inr m ↦ elim (cases_Bool (bytes_eq w (codes "MAX"))) [
            | inl hit ↦ rw (same_word w (codes "MAX") hit, sym (same_Some (item.Max n) i (rw (c, s, m, hit) at e))) (max free)
            | inr x ↦ absurd (none-some i (rw (c, s, m, x) at e))
          ]
        ]
      ]
    ]

with_rest_some : (o : Option (Item (List ℕ))) (i : Item (List ℕ)) (us rest : List Token) → with_rest us o ≡ Some (i, rest) → (o ≡ Some i) × (us ≡ rest)
with_rest_some None i us rest e = absurd (none-some (i, rest) e)
with_rest_some (Some x) i us rest e = let parts = some_pair_parts x i us rest e in (ap Some parts.0, parts.1)

rows_sound : (w : List ℕ) (ts : List Token) (i : Item (List ℕ)) (rest : List Token) → rows_at w ts ≡ Some (i, rest) → SpellsItem (Word w ∷ Mark LeftParen ∷ Mark Asterisk ∷ ts) i rest
rows_sound w (Mark RightParen ∷ us) i rest e = elim (cases_Bool (bytes_eq w (codes "COUNT"))) [
  | inl hit ↦
      let parts = some_pair_parts item.CountRows i us rest (rw hit at e) in
      rw (same_word w (codes "COUNT") hit, sym parts.0, sym parts.1) count_rows
  | inr miss ↦ absurd (none-some (i, rest) (rw miss at e))
]
rows_sound w ts i rest e = absurd (none-some (i, rest) e)

distinct_sound : (w : List ℕ) (ts : List Token) (i : Item (List ℕ)) (rest : List Token) → distinct_at w ts ≡ Some (i, rest) → SpellsItem (Word w ∷ Mark LeftParen ∷ DISTINCT ∷ ts) i rest
distinct_sound w (Word n ∷ Mark RightParen ∷ us) i rest e = elim (cases_Bool (is_reserved n)) [
  | inl reserved ↦ absurd (none-some (i, rest) (rw reserved at e))
  | inr free ↦ elim (cases_Bool (bytes_eq w (codes "COUNT"))) [
    | inl hit ↦
        let parts = some_pair_parts (item.CountDistinct n) i us rest (rw (free, hit) at e) in
        rw (same_word w (codes "COUNT") hit, sym parts.0, sym parts.1) (count_distinct free)
    | inr miss ↦ absurd (none-some (i, rest) (rw (free, miss) at e))
  ]
]
distinct_sound w ts i rest e = absurd (none-some (i, rest) e)

named_sound : (w n : List ℕ) (ts : List Token) (i : Item (List ℕ)) (rest : List Token) → named_at w n ts ≡ Some (i, rest) → SpellsItem (Word w ∷ Mark LeftParen ∷ Word n ∷ ts) i rest
named_sound w n (Mark RightParen ∷ us) i rest e = elim (cases_Bool (is_reserved n)) [
  | inl reserved ↦ absurd (none-some (i, rest) (rw reserved at e))
  | inr free ↦
      let parts = with_rest_some (call_of w n) i us rest (rw free at e) in
      subst (λ r. SpellsItem (Word w ∷ Mark LeftParen ∷ Word n ∷ Mark RightParen ∷ us) i r) parts.1 (call_sound w n i us free parts.0)
]
named_sound w n ts i rest e = absurd (none-some (i, rest) e)

calls_sound : (w : List ℕ) (ts : List Token) (i : Item (List ℕ)) (rest : List Token) → call_at w ts ≡ Some (i, rest) → SpellsItem (Word w ∷ ts) i rest
calls_sound w (Mark LeftParen ∷ Mark Asterisk ∷ us) i rest e = rows_sound w us i rest e
calls_sound w (Mark LeftParen ∷ Word n ∷ us) i rest e = elim (cases_Bool (bytes_eq n (codes "DISTINCT"))) [
  | inl hit ↦ rw (same_word n (codes "DISTINCT") hit) (distinct_sound w us i rest (rw hit at e))
  | inr miss ↦ named_sound w n us i rest (rw miss at e)
]
calls_sound w ts i rest e = absurd (none-some (i, rest) e)

item_sound : (ts : List Token) (i : Item (List ℕ)) (rest : List Token) → item_at ts ≡ Some (i, rest) → SpellsItem ts i rest
unfolding item_at
item_sound (Word w ∷ us) i rest e = elim (cases_Bool (is_reserved w)) [
  | inl reserved ↦ calls_sound w us i rest (rw reserved at e)
  | inr free ↦
      let parts = some_pair_parts (item.Column w) i us rest (rw free at e) in
      rw (sym parts.0, sym parts.1) (column free)
]
item_sound ts i rest e = absurd (none-some (i, rest) e)

pub item_computes : (ts : List Token) → BeginsNotCall GROUPING ts → Computes SpellsItem ts (item_at ts)
item_computes ts other = record { sound = item_sound ts; complete = λ i rest s. item_complete s other }

-- ---- literals, comparisons
literal_sound : (ts : List Token) (l : Literal) (rest : List Token) → literal_at ts ≡ Some (l, rest) → SpellsLiteral ts l rest
literal_sound (Number n ∷ us) l rest e = let parts = some_pair_parts (literal.Int n) l us rest e in rw (sym parts.0, sym parts.1) number
literal_sound (Quoted t ∷ us) l rest e = let parts = some_pair_parts (literal.Text t) l us rest e in rw (sym parts.0, sym parts.1) text
literal_sound ts l rest e = absurd (none-some (l, rest) e)

literal_complete : {ts : List Token} {l : Literal} {rest : List Token} → SpellsLiteral ts l rest → literal_at ts ≡ Some (l, rest)
literal_complete number = refl
literal_complete text = refl

pub literal_computes : (ts : List Token) → Computes SpellsLiteral ts (literal_at ts)
literal_computes ts = record { sound = literal_sound ts; complete = λ l rest s. literal_complete s }

pub comparison_sound : (ts : List Token) (c : Comparison) (rest : List Token) → comparison_at ts ≡ Some (c, rest) → SpellsComparison ts c rest
comparison_sound (Mark Equals ∷ us) c rest e = let parts = some_pair_parts comparison.Equal c us rest e in rw (sym parts.0, sym parts.1) equal
comparison_sound (Mark NotEquals ∷ us) c rest e = let parts = some_pair_parts comparison.NotEqual c us rest e in rw (sym parts.0, sym parts.1) not_equal
comparison_sound (Mark LessThan ∷ us) c rest e = let parts = some_pair_parts comparison.Less c us rest e in rw (sym parts.0, sym parts.1) less
comparison_sound (Mark LessThanOrEquals ∷ us) c rest e = let parts = some_pair_parts comparison.LessOrEqual c us rest e in rw (sym parts.0, sym parts.1) less_or_equal
comparison_sound (Mark GreaterThan ∷ us) c rest e = let parts = some_pair_parts comparison.Greater c us rest e in rw (sym parts.0, sym parts.1) greater
comparison_sound (Mark GreaterThanOrEquals ∷ us) c rest e = let parts = some_pair_parts comparison.GreaterOrEqual c us rest e in rw (sym parts.0, sym parts.1) greater_or_equal
comparison_sound ts c rest e = absurd (none-some (c, rest) e)

pub comparison_complete : {ts : List Token} {c : Comparison} {rest : List Token} → SpellsComparison ts c rest → comparison_at ts ≡ Some (c, rest)
comparison_complete equal = refl
comparison_complete not_equal = refl
comparison_complete less = refl
comparison_complete less_or_equal = refl
comparison_complete greater = refl
comparison_complete greater_or_equal = refl
