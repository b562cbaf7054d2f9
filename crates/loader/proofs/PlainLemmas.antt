-- A text with no quote and no line end is one record, whose fields are what stands between its commas.
use Rattle.std.proofs.Common.{◌∙◌, ap, arith, refl, sym}
use Rattle.std.proofs.lemmas.List.{append-nil, append_assoc, take_rest}
use Rattle.std.proofs.lemmas.Bool.Decides.{nat_tests}
use Rattle.std.proofs.lemmas.List.Splits.{slice_split_first}
use Rattle.std.specs.List.{list_any, onto_first, position, position_or_len}
use Rattle.std.specs.Prelude.{◌≡◌, ◌==◌, ◌<◌, ◌≤◌, ◌+◌, ◌-◌, ◌++◌, ◌&&◌, ◌||◌, if◌then◌else◌, ℕ, Bool, true, false, cond, List, [], ◌∷◌, Option, Some, None, IsTrue, drop, length, nat_lt, not, slice_get, take}
use Rattle.csv.specs.Machine.{Read, ends_at_end, field_after, fields_after, is_end, next_record, step}
use Rattle.csv.specs.Writing.{comma}
use Rattle.csv.specs.Reading.{default_config, strip_bom}
use Rattle.csv.specs.declared.parser.State.{State}
use Rattle.csv.specs.declared.parser.State.TheVariants as st
use Rattle.csv.specs.declared.parser.Action.{Action}
use Rattle.csv.specs.declared.parser.Action.TheVariants as act
use Rattle.loader.specs.Records.{begins_plainly, between_commas, is_special, records_of}
use Rattle.records.specs.Records.{records_at}
use Rattle.records.specs.Laws.{records_at-end, records_at-more}

-- ---- parts of which the first has a text before it

abbrev led : List ℕ → List (List ℕ) → List (List ℕ)
led front [] = front ∷ []
led front (part ∷ parts) = (front ++ part) ∷ parts

led_onto : (front : List ℕ) (c : ℕ) (parts : List (List ℕ)) → led (front ++ c ∷ []) parts ≡ led front (onto_first c parts)
led_onto front c [] = refl
led_onto front c (part ∷ parts) = ap (λ (first : List ℕ). first ∷ parts) (append_assoc front (c ∷ []) part)

led_by_none : (bs : List ℕ) → led [] (between_commas bs) ≡ between_commas bs
led_by_none [] = refl
led_by_none (b ∷ bs) = go (b == 44) (between_commas bs) where
  go : (comma : Bool) (parts : List (List ℕ)) → led [] (cond comma ([] ∷ parts) (onto_first b parts)) ≡ cond comma ([] ∷ parts) (onto_first b parts)
  go true parts = refl
  go false [] = refl
  go false (part ∷ parts) = refl

-- ---- a byte that is not special

-- a comma ends the field at hand, and any other byte joins it
abbrev plain_step : Bool → State × Action
plain_step comma = if comma then (st.StartField, act.EndField) else (st.InField, act.Copy)

unquoted : (quote comma return feed : Bool) (quoted ended : State × Action) → quote || return || feed ≡ false
    → (if quote then quoted else if comma then (st.StartField, act.EndField) else if return || feed then ended else (st.InField, act.Copy)) ≡ plain_step comma
unquoted true comma return feed quoted ended e = cc
unquoted false comma true feed quoted ended e = cc
unquoted false comma false true quoted ended e = cc
unquoted false comma false false quoted ended e = refl

-- the front of a record takes what is not special as a field does
first_step : (quote comma return feed : Bool) (skipped quoted ended : State × Action) → quote || return || feed ≡ false
    → (if return || feed then skipped else if quote then quoted else if comma then (st.StartField, act.EndField) else if return || feed then ended else (st.InField, act.Copy))
    ≡ plain_step comma
first_step true comma return feed skipped quoted ended e = cc
first_step false comma true feed skipped quoted ended e = cc
first_step false comma false true skipped quoted ended e = cc
first_step false comma false false skipped quoted ended e = refl

-- a state that takes bytes that are not special so
abbrev TakesPlain : State → Type 0
TakesPlain s = (c : ℕ) → is_special c ≡ false → step default_config s c ≡ plain_step (c == 44)

record IsField (s : State) : Type 0 where
  pub takes : TakesPlain s
  pub ends : ends_at_end s ≡ true

begun : TakesPlain st.StartRecord
begun c e = first_step (c == 34) (c == 44) (c == 13) (c == 10) _ _ _ e

at_field : IsField st.StartField
at_field = record { takes = λ c e. unquoted (c == 34) (c == 44) (c == 13) (c == 10) _ _ e; ends = refl }

in_field : IsField st.InField
in_field = record { takes = λ c e. unquoted false (c == 44) (c == 13) (c == 10) (st.InQuoted, act.Skip) _ (unspecial (c == 34) (c == 13) (c == 10) e); ends = refl } where
  unspecial : (quote return feed : Bool) → quote || return || feed ≡ false → return || feed ≡ false
  unspecial true return feed e = cc
  unspecial false return feed e = e

-- ---- a text of such bytes

-- what is read behind a byte that did this
abbrev behind : State × Action → List (List ℕ) → List ℕ → ℕ → List ℕ → Option Read
behind p fields field c rest =
    if is_end p.1 then Some (fields_after p.1 fields field, p.0, rest) else next_record default_config p.0 (fields_after p.1 fields field) (field_after p.1 c field) rest

-- the record whose fields are these, with no text behind it
abbrev whole : List (List ℕ) → Option Read
whole fields = Some (fields, st.StartRecord, [])

pub either_false : (b c : Bool) → b || c ≡ false → (b ≡ false) × (c ≡ false)
either_false true c e = cc
either_false false c e = (refl, e)

-- what is read behind one byte, by what is read of the rest
behind_plain : (comma : Bool) (fields : List (List ℕ)) (field : List ℕ) (c : ℕ) (rest : List ℕ)
    → (next_record default_config st.StartField (fields ++ field ∷ []) [] rest ≡ whole ((fields ++ field ∷ []) ++ led [] (between_commas rest)))
    → (next_record default_config st.InField fields (field ++ c ∷ []) rest ≡ whole (fields ++ led (field ++ c ∷ []) (between_commas rest)))
    → behind (plain_step comma) fields field c rest ≡ whole (fields ++ led field (cond comma ([] ∷ between_commas rest) (onto_first c (between_commas rest))))
behind_plain true fields field c rest ended joined =
    ended
    ∙ ap (λ (parts : List (List ℕ)). whole ((fields ++ field ∷ []) ++ parts)) (led_by_none rest)
    ∙ ap whole (append_assoc fields (field ∷ []) (between_commas rest))
    ∙ ap (λ (first : List ℕ). whole (fields ++ first ∷ between_commas rest)) (sym (append-nil field))
behind_plain false fields field c rest ended joined = joined ∙ ap (λ (parts : List (List ℕ)). whole (fields ++ parts)) (led_onto field c (between_commas rest))

fields_plain : (bs : List ℕ) (s : State) → IsField s → (fields : List (List ℕ)) (field : List ℕ) → list_any is_special bs ≡ false
    → next_record default_config s fields field bs ≡ whole (fields ++ led field (between_commas bs))
unfolding next_record
fields_plain [] s is fields field none =
    rw is.ends (ap (λ (last : List ℕ). whole (fields ++ last ∷ [])) (sym (append-nil field)))
fields_plain (c ∷ rest) s is fields field none =
    let (plain, more) = either_false (is_special c) _ none in
    ap (λ (p : State × Action). behind p fields field c rest) (is.takes c plain)
    ∙ behind_plain (c == 44) fields field c rest (fields_plain rest st.StartField at_field _ [] more) (fields_plain rest st.InField in_field fields _ more)

first_plain : (c : ℕ) (rest : List ℕ) → list_any is_special (c ∷ rest) ≡ false → next_record default_config st.StartRecord [] [] (c ∷ rest) ≡ whole (between_commas (c ∷ rest))
unfolding next_record
first_plain c rest none =
    let (plain, more) = either_false (is_special c) _ none in
    ap (λ (p : State × Action). behind p [] [] c rest) (begun c plain)
    ∙ behind_plain (c == 44) [] [] c rest (fields_plain rest st.StartField at_field _ [] more) (fields_plain rest st.InField in_field [] _ more)
    ∙ ap whole (led_by_none (c ∷ rest))

-- a text that begins with another byte than a byte order mark has none
pub no_mark : (b : ℕ) (bs : List ℕ) → (b == 0xEF) ≡ false → strip_bom (b ∷ bs) ≡ b ∷ bs
unfolding strip_bom
no_mark b [] e = refl
no_mark b (c ∷ []) e = refl
no_mark b (c ∷ d ∷ rest) e = rw e refl

pub plain_record : (b : ℕ) (bs : List ℕ) → (b == 0xEF) ≡ false → list_any is_special (b ∷ bs) ≡ false → records_of (b ∷ bs) ≡ between_commas (b ∷ bs) ∷ []
unfolding next_record
plain_record b bs mark none =
    ap (records_at comma st.StartRecord) (no_mark b bs mark)
    ∙ (records_at-more comma st.StartRecord (b ∷ bs) (between_commas (b ∷ bs), st.StartRecord, []) refl (first_plain b bs none)).0
    ∙ ap (λ (more : List (List (List ℕ))). between_commas (b ∷ bs) ∷ more) (records_at-end comma st.StartRecord [] refl)

-- ---- what stands before the first comma

first_place : (a n at : ℕ) → cond (nat_lt a n) (Some a) None ≡ Some at → (a < n) × (a ≡ at)
first_place a n at e = grind (arith, nat_tests)

no_place : (a n : ℕ) → cond (nat_lt a n) (Some a) None ≡ None → n ≤ a
no_place a n e = grind (arith, nat_tests)

pub first_comma : (bs : List ℕ) (at : ℕ) → position (λ b. b == 44) bs ≡ Some at
    → between_commas bs ≡ take at bs ∷ between_commas (take (length bs - (at + 1)) (drop (at + 1) bs))
first_comma bs at e =
    let p = first_place (position_or_len (λ b. b == 44) bs) (length bs) at e in
    rw (take_rest, ← p.1) (slice_split_first (λ b. b == 44) bs 0 p.0)

no_cut : (b : Bool) (x : ℕ) (xs : List ℕ) (n : ℕ) (parts : List (List ℕ)) → length (x ∷ xs) ≤ cond (not b) (1 + n) 0 → (length xs ≤ n → parts ≡ xs ∷ [])
    → cond b ([] ∷ parts) (onto_first x parts) ≡ (x ∷ xs) ∷ []
no_cut true x xs n parts h more = absurd (omega arith)
no_cut false x xs n parts h more = rw (more (omega arith)) refl

one_field : (bs : List ℕ) → length bs ≤ position_or_len (λ b. b == 44) bs → between_commas bs ≡ bs ∷ []
one_field [] h = refl
one_field (x ∷ xs) h = no_cut (x == 44) x xs (position_or_len (λ b. b == 44) xs) _ h (one_field xs)

pub no_comma : (bs : List ℕ) → position (λ b. b == 44) bs ≡ None → between_commas bs ≡ bs ∷ []
no_comma bs e = one_field bs (no_place _ _ e)

unmarked : (x y : ℕ) → Some x ≡ Some y → (x ≡ 0xEF → ⊥) → (y == 0xEF) ≡ false
unmarked x y same other = let alike : x ≡ y = cc in grind (arith, nat_tests)

-- a text that begins so and has no such byte is one record
pub plain_text : (bs : List ℕ) (first : ℕ) (special : Bool) → Some first ≡ slice_get bs 0 → (first ≡ 0xEF → ⊥) → special ≡ list_any is_special bs
    → IsTrue (not special) → records_of bs ≡ between_commas bs ∷ []
plain_text [] first special at mark is plain = cc
plain_text (b ∷ bs) first special at mark is plain = plain_record b bs (unmarked first b at mark) (none special is plain) where
  none : (s : Bool) → s ≡ list_any is_special (b ∷ bs) → IsTrue (not s) → list_any is_special (b ∷ bs) ≡ false
  none true is plain = cc
  none false is plain = sym is

-- and the test for it is exact
pub plain_exactly : (bs : List ℕ) (first : ℕ) (special : Bool) → Some first ≡ slice_get bs 0 → (first ≡ 0xEF → ⊥) → special ≡ list_any is_special bs
    → not special ≡ (begins_plainly bs && not (list_any is_special bs))
plain_exactly [] first special at mark is = cc
plain_exactly (b ∷ bs) first special at mark is = rw (unmarked first b at mark, is) refl
