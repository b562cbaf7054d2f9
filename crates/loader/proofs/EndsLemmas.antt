-- Where texts end: behind a line feed where no quote is before it, and behind one byte more.
use Rattle.std.proofs.Common.{refl, ap, ap₂, subst, sym, arith, ◌∙◌}
use Rattle.std.proofs.Math.Seq.{drop-cons}
use Rattle.std.proofs.lemmas.List.{length-take-le, take_more}
use Rattle.std.specs.List.{list_any}
use Rattle.std.specs.Prelude.{◌≡◌, ◌<◌, ◌≤◌, ◌+◌, ◌-◌, ◌++◌, ◌==◌, ◌&&◌, ⊤, ℕ, Bool, true, false, List, [], ◌∷◌, drop, get_or, length, not, take, if◌then◌else◌}
use Rattle.csv.specs.Machine.{step, ends_with, after_end, in_field, start_field, start_record}
use Rattle.csv.specs.Reading.{default_config, is_bom, strip_bom}
use Rattle.csv.specs.declared.parser.State.{State}
use Rattle.csv.specs.declared.parser.State.TheVariants as st
use Rattle.csv.specs.declared.parser.Action.{Action}
use Rattle.csv.specs.declared.parser.Action.TheVariants as act
use Rattle.loader.specs.Cuts.{IsCut, IsLineEnd, is_quote, is_start, state_after}
use Rattle.loader.specs.Records.{begins_plainly}
use mathlib.Core.Logic.{dite}
use native.Mathlib.Decide.{ℕ_discrete}
use Rattle.loader.proofs.CutsLemmas.{plain_unmarked, strip_bom-append}
use Rattle.loader.proofs.PlainLemmas.{either_false}

-- ---- one byte more

state_after-append : (xs ys : List ℕ) (s : State) → state_after s (xs ++ ys) ≡ state_after (state_after s xs) ys
state_after-append [] ys s = refl
state_after-append (c ∷ xs) ys s = state_after-append xs ys (step default_config s c).0

-- behind a byte mark and more, the state behind one byte more is a step on
pub state_more : (bytes : List ℕ) (at : ℕ) (s : State) → 3 ≤ at → at < length bytes → s ≡ state_after st.StartRecord (strip_bom (take at bytes)) →
    (step default_config s (get_or bytes at 0)).0 ≡ state_after st.StartRecord (strip_bom (take (at + 1) bytes))
state_more bytes at s front within is =
    let long : 3 ≤ length (take at bytes) = omega (arith, front, within, length-take-le at bytes (omega (arith, within))) in
    ap (λ u. (step default_config u (get_or bytes at 0)).0) is
    ∙ sym (state_after-append (strip_bom (take at bytes)) (get_or bytes at 0 ∷ []) st.StartRecord)
    ∙ ap (state_after st.StartRecord) (sym (strip_bom-append (take at bytes) (get_or bytes at 0 ∷ []) long))
    ∙ ap (λ (text : List ℕ). state_after st.StartRecord (strip_bom text)) (sym (take_more bytes at 0 within))

-- where the first three bytes of a text are a mark, there is nothing of them behind it
pub marked_front : (bytes : List ℕ) → 3 ≤ length bytes → is_bom (get_or bytes 0 0) (get_or bytes 1 0) (get_or bytes 2 0) ≡ true → strip_bom (take 3 bytes) ≡ []
unfolding strip_bom
marked_front [] long is = absurd (omega (arith, long))
marked_front (a ∷ []) long is = absurd (omega (arith, long))
marked_front (a ∷ b ∷ []) long is = absurd (omega (arith, long))
marked_front (a ∷ b ∷ c ∷ rest) long is = ap (λ marked. if marked then [] else a ∷ b ∷ c ∷ []) is

-- where they are none, they are the text's front
unmarked_front : (bytes : List ℕ) → 3 ≤ length bytes → is_bom (get_or bytes 0 0) (get_or bytes 1 0) (get_or bytes 2 0) ≡ false
    → strip_bom (take 3 bytes) ≡ get_or bytes 0 0 ∷ get_or bytes 1 0 ∷ get_or bytes 2 0 ∷ []
unfolding strip_bom
unmarked_front [] long is = absurd (omega (arith, long))
unmarked_front (a ∷ []) long is = absurd (omega (arith, long))
unmarked_front (a ∷ b ∷ []) long is = absurd (omega (arith, long))
unmarked_front (a ∷ b ∷ c ∷ rest) long is = ap (λ marked. if marked then [] else a ∷ b ∷ c ∷ []) is

-- the state behind them
pub three_after : (bytes : List ℕ) (first second third : State) → 3 ≤ length bytes → is_bom (get_or bytes 0 0) (get_or bytes 1 0) (get_or bytes 2 0) ≡ false →
    first ≡ (step default_config st.StartRecord (get_or bytes 0 0)).0 → second ≡ (step default_config first (get_or bytes 1 0)).0 → third ≡ (step default_config second (get_or bytes 2 0)).0 →
    third ≡ state_after st.StartRecord (strip_bom (take 3 bytes))
three_after bytes first second third long unmarked one two three =
    three ∙ ap (λ s. (step default_config s (get_or bytes 2 0)).0) (two ∙ ap (λ s. (step default_config s (get_or bytes 1 0)).0) one)
    ∙ ap (state_after st.StartRecord) (sym (unmarked_front bytes long unmarked))

-- ---- lines with no quote

-- a state that no quote led to
abbrev Unquoted : State → Type 0
Unquoted st.StartRecord = ⊤
Unquoted st.StartField = ⊤
Unquoted st.InField = ⊤
Unquoted st.AfterCr = ⊤
Unquoted st.InQuoted = ⊥
Unquoted st.AfterQuote = ⊥
Unquoted st.InEscape = ⊥
Unquoted st.InComment = ⊥

pick : (b : Bool) (p q : State × Action) → Unquoted p.0 → Unquoted q.0 → Unquoted (if b then p else q).0
pick true p q x y = x
pick false p q x y = y

after_end_unquoted : (c : ℕ) → Unquoted (after_end default_config.terminator c)
after_end_unquoted c = go (c == 13) where
  go : (b : Bool) → Unquoted (if b then st.AfterCr else st.StartRecord)
  go true = tt
  go false = tt

in_field_unquoted : (c : ℕ) → Unquoted (in_field default_config c).0
in_field_unquoted c = pick (c == 44) (st.StartField, act.EndField) _ tt
    (pick (ends_with default_config.terminator c) (after_end default_config.terminator c, act.EndRecord) (st.InField, act.Copy) (after_end_unquoted c) tt)

start_field_unquoted : (c : ℕ) → (c == 34) ≡ false → Unquoted (start_field default_config c).0
start_field_unquoted c other = go (c == 34) other where
  go : (b : Bool) → b ≡ false → Unquoted (if b then (st.InQuoted, act.Skip) else in_field default_config c).0
  go true e = absurd (cc)
  go false e = in_field_unquoted c

start_record_unquoted : (c : ℕ) → (c == 34) ≡ false → Unquoted (start_record default_config c).0
start_record_unquoted c other = pick (ends_with default_config.terminator c) (st.StartRecord, act.Skip) (start_field default_config c) tt (start_field_unquoted c other)

step_unquoted : (s : State) (c : ℕ) → Unquoted s → (c == 34) ≡ false → Unquoted (step default_config s c).0
step_unquoted st.StartRecord c so other = start_record_unquoted c other
step_unquoted st.StartField c so other = start_field_unquoted c other
step_unquoted st.InField c so other = in_field_unquoted c
step_unquoted st.AfterCr c so other = pick (c == 10) (st.StartRecord, act.Skip) (start_record default_config c) tt (start_record_unquoted c other)
step_unquoted st.InQuoted c so other = absurd so
step_unquoted st.AfterQuote c so other = absurd so
step_unquoted st.InEscape c so other = absurd so
step_unquoted st.InComment c so other = absurd so

-- a line feed ends the line
step_feed : (s : State) → Unquoted s → (step default_config s 10).0 ≡ st.StartRecord
step_feed st.StartRecord so = refl
step_feed st.StartField so = refl
step_feed st.InField so = refl
step_feed st.AfterCr so = refl
step_feed st.InQuoted so = absurd so
step_feed st.AfterQuote so = absurd so
step_feed st.InEscape so = absurd so
step_feed st.InComment so = absurd so

line_ends : (xs : List ℕ) (s : State) → Unquoted s → list_any is_quote (xs ++ 10 ∷ []) ≡ false → state_after s (xs ++ 10 ∷ []) ≡ st.StartRecord
line_ends [] s so none = step_feed s so
line_ends (c ∷ xs) s so none =
    let (other, more) = either_false (is_quote c) _ none in
    line_ends xs (step default_config s c).0 (step_unquoted s c so other) more

both_true : (a b : Bool) → (a && not b) ≡ true → (a ≡ true) × (b ≡ false)
both_true true true e = absurd (cc)
both_true true false e = (refl, refl)
both_true false true e = absurd (cc)
both_true false false e = absurd (cc)

-- where a line begins behind bytes that begin plainly and have no quote, the text may be cut
pub line_cut : (bytes : List ℕ) (at : ℕ) → IsLineEnd bytes at → (begins_plainly (take at bytes) && not (list_any is_quote (take at bytes))) ≡ true → IsCut bytes at
line_cut bytes at line simple =
    let (plain, none) = both_true (begins_plainly (take at bytes)) (list_any is_quote (take at bytes)) simple in
    let front = take (at - 1) bytes in
    let is : take at bytes ≡ front ++ 10 ∷ [] =
    ap (λ n. take n bytes) {x = at} {y = at - 1 + 1} (omega (arith, line.front)) ∙ take_more bytes (at - 1) 0 (omega (arith, line.within, line.front))
    ∙ ap (λ (last : ℕ). front ++ last ∷ []) line.feed in
    record {
      front = line.front;
      within = line.within;
      between = ap (state_after st.StartRecord) (plain_unmarked (take at bytes) plain ∙ is) ∙ line_ends front st.StartRecord tt (ap (list_any is_quote) (sym is) ∙ none);
      plain = line.plain;
    }

-- ---- the first of some places

-- where a place is not so, the first one is behind it
pub none_yet : (is : ℕ → Type 0) (from at : ℕ) → ((place : ℕ) → from ≤ place → place < at → is place → ⊥) → (from ≤ at → is at → ⊥) →
    (place : ℕ) → from ≤ place → place < at + 1 → is place → ⊥
none_yet is from at before here place above below so =
    dite (ℕ_discrete place at)
    (λ same. here (omega (arith, same, above)) (subst is same so))
    (λ other. before place above (omega (arith, below, other)) so)

start_is : (s : State) → s ≡ st.StartRecord → is_start s ≡ true
start_is s is = ap is_start is

plain_at : (bytes : List ℕ) (at : ℕ) → at < length bytes → begins_plainly (drop at bytes) ≡ not (get_or bytes at 0 == 239)
plain_at bytes at within = ap begins_plainly (drop-cons bytes at 0 within)

-- where a text stands that may not be cut before its next byte
pub no_cut : (bytes : List ℕ) (at : ℕ) (s : State) → at < length bytes → s ≡ state_after st.StartRecord (strip_bom (take at bytes)) →
    (is_start s && not (get_or bytes at 0 == 239)) ≡ false → IsCut bytes at → ⊥
no_cut bytes at s within is not_so cut =
    let between : is_start s ≡ true = start_is s (is ∙ cut.between) in
    let plain : not (get_or bytes at 0 == 239) ≡ true = sym (plain_at bytes at within) ∙ cut.plain in
    let never : true ≡ false = sym (ap₂ (λ (a b : Bool). a && b) between plain) ∙ not_so in
    absurd (cc)
