-- Records of a text that is cut between two records are those of its front and then those of its rest.
use Rattle.std.proofs.Common.{◌⊎◌, inl, inr, refl, ap, ap₂, sym, subst, arith, ◌∙◌}
use Rattle.std.proofs.lemmas.Grind.{flat_map-append}
use Rattle.std.proofs.lemmas.List.{append-nil, append_assoc, length-take-le, map-append, take-append-drop}
use Rattle.std.specs.Borrow.{Bor}
use Rattle.std.specs.List.{flat_map}
use Rattle.std.specs.Prelude.{◌≡◌, ◌<◌, ◌≤◌, ◌++◌, ◌==◌, ⊤, ℕ, zero, suc, Bool, true, false, List, [], ◌∷◌, Option, Some, None, drop, length, map, not, take, if◌then◌else◌}
use Rattle.csv.specs.Machine.{Read, next_record, step, is_end, ends_at_end, ends_with, after_end, in_field, start_field, start_record, fields_after, field_after}
use Rattle.csv.specs.Writing.{comma}
use Rattle.csv.specs.Reading.{default_config, is_bom, strip_bom}
use Rattle.csv.specs.declared.parser.State.{State}
use Rattle.csv.specs.declared.parser.State.TheVariants as st
use Rattle.csv.specs.declared.parser.Action.{Action}
use Rattle.csv.specs.declared.parser.Action.TheVariants as act
use Rattle.loader.specs.Cuts.{IsCut, state_after}
use Rattle.loader.specs.Records.{begins_plainly, records_of}
use Rattle.loader.proofs.PlainLemmas.{no_mark}
use Rattle.records.specs.Records.{records_at}
use Rattle.records.specs.Laws.{records_at-end, records_at-more}
use Rattle.records.specs.Ends.{step_well}

-- ---- no record is begun between two records

-- what was read of a record where the machine is in this state
abbrev Holds : State → List (List ℕ) → List ℕ → Type 0
Holds st.StartRecord fields field = (fields ≡ []) × (field ≡ [])
Holds st.AfterCr fields field = (fields ≡ []) × (field ≡ [])
Holds st.InComment fields field = (fields ≡ []) × (field ≡ [])
Holds st.StartField fields field = ⊤
Holds st.InField fields field = ⊤
Holds st.InQuoted fields field = ⊤
Holds st.AfterQuote fields field = ⊤
Holds st.InEscape fields field = ⊤

holds_none : (s : State) → Holds s [] []
holds_none st.StartRecord = (refl, refl)
holds_none st.AfterCr = (refl, refl)
holds_none st.InComment = (refl, refl)
holds_none st.StartField = tt
holds_none st.InField = tt
holds_none st.InQuoted = tt
holds_none st.AfterQuote = tt
holds_none st.InEscape = tt

module _ (c : ℕ) (fields : List (List ℕ)) (field : List ℕ) where
  -- a step that ends no record leads to where so much may have been read
  abbrev Keeps : State × Action → Type 0
  Keeps p = is_end p.1 ≡ false → Holds p.0 (fields_after p.1 fields field) (field_after p.1 c field)

  pick : (b : Bool) (p q : State × Action) → Keeps p → Keeps q → Keeps (if b then p else q)
  pick true p q x y = x
  pick false p q x y = y

  in_field_keeps : Keeps (in_field default_config c)
  in_field_keeps = pick (c == 44) _ _ (λ e. tt)
      (pick (ends_with default_config.terminator c) (after_end default_config.terminator c, act.EndRecord) (st.InField, act.Copy) (λ e. absurd (cc)) (λ e. tt))

  start_field_keeps : Keeps (start_field default_config c)
  start_field_keeps = pick (c == 34) (st.InQuoted, act.Skip) (in_field default_config c) (λ e. tt) in_field_keeps

  start_record_keeps : (fields ≡ []) × (field ≡ []) → Keeps (start_record default_config c)
  start_record_keeps held = pick (ends_with default_config.terminator c) (st.StartRecord, act.Skip) (start_field default_config c) (λ e. held) start_field_keeps

  step_keeps : (s : State) → Holds s fields field → Keeps (step default_config s c)
  step_keeps st.StartRecord held = start_record_keeps held
  step_keeps st.StartField held = start_field_keeps
  step_keeps st.InField held = in_field_keeps
  step_keeps st.InQuoted held = pick (c == 34) (st.AfterQuote, act.Skip) (st.InQuoted, act.Copy) (λ e. tt) (λ e. tt)
  step_keeps st.InEscape held = λ e. tt
  step_keeps st.AfterQuote held = pick (c == 34) (st.InQuoted, act.Copy) (in_field default_config c) (λ e. tt) in_field_keeps
  step_keeps st.InComment held = pick (c == 10) (st.StartRecord, act.Skip) (st.InComment, act.Skip) (λ e. held) (λ e. held)
  step_keeps st.AfterCr held = pick (c == 10) (st.StartRecord, act.Skip) (start_record default_config c) (λ e. held) (start_record_keeps held)

-- ---- the next record of a text whose front ends between two records

either : {A : Type 0} (b c : Bool) (x y : A) → b ≡ c → (if b then x else y) ≡ (if c then x else y)
either b c x y e = ap (λ test. if test then x else y) e

-- a byte that ends a record
step_end : (s : State) (fields : List (List ℕ)) (field : List ℕ) (c : ℕ) (rest : List ℕ) → is_end (step default_config s c).1 ≡ true
    → next_record default_config s fields field (c ∷ rest) ≡ Some (fields_after (step default_config s c).1 fields field, (step default_config s c).0, rest)
unfolding next_record
step_end s fields field c rest ends = either (is_end (step default_config s c).1) true _ _ ends

-- and one that does not
step_on : (s : State) (fields : List (List ℕ)) (field : List ℕ) (c : ℕ) (rest : List ℕ) → is_end (step default_config s c).1 ≡ false
    → next_record default_config s fields field (c ∷ rest)
    ≡ next_record default_config (step default_config s c).0 (fields_after (step default_config s c).1 fields field) (field_after (step default_config s c).1 c field) rest
unfolding next_record
step_on s fields field c rest goes = either (is_end (step default_config s c).1) false _ _ goes

none_at_end : (fields : List (List ℕ)) (field : List ℕ) → next_record default_config st.StartRecord fields field [] ≡ None
unfolding next_record
none_at_end fields field = refl

-- a record ends within the front, whatever is behind it
record EndsWithin (s : State) (fields : List (List ℕ)) (field : List ℕ) (front rest : List ℕ) : Type 0 where
  pub read : Read
  pub alone : next_record default_config s fields field front ≡ Some read
  pub both : next_record default_config s fields field (front ++ rest) ≡ Some (read.0, read.1, read.2 ++ rest)
  pub left : state_after read.1 read.2 ≡ st.StartRecord
  pub between : ends_at_end read.1 ≡ false
  pub less : length read.2 < length front

-- no record ends within the front, and the next one is the first one behind it
record EndsBehind (s : State) (fields : List (List ℕ)) (field : List ℕ) (front rest : List ℕ) : Type 0 where
  pub alone : next_record default_config s fields field front ≡ None
  pub both : next_record default_config s fields field (front ++ rest) ≡ next_record default_config st.StartRecord [] [] rest

at_cut : (s : State) (fields : List (List ℕ)) (field : List ℕ) (rest : List ℕ) → s ≡ st.StartRecord → Holds s fields field → EndsBehind s fields field [] rest
at_cut s fields field rest is held =
    let none : Holds st.StartRecord fields field = subst (λ u. Holds u fields field) is held in record {
      alone = ap (λ u. next_record default_config u fields field []) is ∙ none_at_end fields field;
      both = ap (λ u. next_record default_config u fields field rest) is
          ∙ ap₂ (λ (fs : List (List ℕ)) (f : List ℕ). next_record default_config st.StartRecord fs f rest) none.0 none.1;
    }

-- what is so behind a byte is so before it
by_byte : (s : State) (fields : List (List ℕ)) (field : List ℕ) (c : ℕ) (front rest : List ℕ) → state_after s (c ∷ front) ≡ st.StartRecord
    → (is_end (step default_config s c).1 ≡ false →
    EndsWithin (step default_config s c).0 (fields_after (step default_config s c).1 fields field) (field_after (step default_config s c).1 c field) front rest
    ⊎ EndsBehind (step default_config s c).0 (fields_after (step default_config s c).1 fields field) (field_after (step default_config s c).1 c field) front rest)
    → (b : Bool) → is_end (step default_config s c).1 ≡ b
    → EndsWithin s fields field (c ∷ front) rest ⊎ EndsBehind s fields field (c ∷ front) rest
by_byte s fields field c front rest cut more true ends = inl (record {
  read = (fields_after (step default_config s c).1 fields field, (step default_config s c).0, front);
  alone = step_end s fields field c front ends;
  both = step_end s fields field c (front ++ rest) ends;
  left = cut;
  between = step_well comma s c ends;
  less = omega arith;
})
by_byte s fields field c front rest cut more false goes = elim (more goes) [
  | inl within ↦ inl (record {
    read = within.read;
    alone = step_on s fields field c front goes ∙ within.alone;
    both = step_on s fields field c (front ++ rest) goes ∙ within.both;
    left = within.left;
    between = within.between;
    less = omega (arith, within.less);
  })
  | inr behind ↦ inr (record {
    alone = step_on s fields field c front goes ∙ behind.alone;
    both = step_on s fields field c (front ++ rest) goes ∙ behind.both;
  })
]

met : (front : List ℕ) (s : State) (fields : List (List ℕ)) (field : List ℕ) (rest : List ℕ) → Holds s fields field → state_after s front ≡ st.StartRecord
    → EndsWithin s fields field front rest ⊎ EndsBehind s fields field front rest
met [] s fields field rest held cut = inr (at_cut s fields field rest cut held)
met (c ∷ front) s fields field rest held cut =
    by_byte s fields field c front rest cut (λ goes. met front (step default_config s c).0 _ _ rest (step_keeps c fields field s held goes) cut)
    (is_end (step default_config s c).1) refl

-- ---- all records

-- from where one record follows, the same ones do
same_next : (s t : State) (xs ys : List ℕ) → ends_at_end s ≡ false → ends_at_end t ≡ false → (next : Option Read)
    → next_record default_config s [] [] xs ≡ next → next_record default_config t [] [] ys ≡ next → records_at comma s xs ≡ records_at comma t ys
same_next s t xs ys at_s at_t None of_s of_t = records_at-end comma s xs of_s ∙ sym (records_at-end comma t ys of_t)
same_next s t xs ys at_s at_t (Some p) of_s of_t = (records_at-more comma s xs p at_s of_s).0 ∙ sym (records_at-more comma t ys p at_t of_t).0

records_cut : (n : ℕ) (front : List ℕ) (s : State) (rest : List ℕ) → length front < n → ends_at_end s ≡ false → state_after s front ≡ st.StartRecord
    → records_at comma s (front ++ rest) ≡ records_at comma s front ++ records_at comma st.StartRecord rest
records_cut zero front s rest short between cut = absurd (omega (arith, short))
records_cut (suc n) front s rest short between cut = elim (met front s [] [] rest (holds_none s) cut) [
  | inl within ↦
      (records_at-more comma s (front ++ rest) (within.read.0, within.read.1, within.read.2 ++ rest) between within.both).0
      ∙ ap (λ (more : List (List (List ℕ))). within.read.0 ∷ more) (records_cut n within.read.2 within.read.1 rest (omega (arith, short, within.less)) within.between within.left)
      ∙ ap (λ (records : List (List (List ℕ))). records ++ records_at comma st.StartRecord rest) (sym (records_at-more comma s front within.read between within.alone).0)
  | inr behind ↦
      same_next s st.StartRecord (front ++ rest) rest between refl (next_record default_config st.StartRecord [] [] rest) behind.both refl
      ∙ ap (λ (records : List (List (List ℕ))). records ++ records_at comma st.StartRecord rest) (sym (records_at-end comma s front behind.alone))
]

-- ---- byte order marks

-- a mark at the front of a text stands in its first three bytes
pub strip_bom-append : (xs ys : List ℕ) → 3 ≤ length xs → strip_bom (xs ++ ys) ≡ strip_bom xs ++ ys
unfolding strip_bom
strip_bom-append [] ys long = absurd (omega (arith, long))
strip_bom-append (a ∷ []) ys long = absurd (omega (arith, long))
strip_bom-append (a ∷ b ∷ []) ys long = absurd (omega (arith, long))
strip_bom-append (a ∷ b ∷ c ∷ xs) ys long = by_mark (is_bom a b c) where
  by_mark : (marked : Bool) → (if marked then xs ++ ys else a ∷ b ∷ c ∷ (xs ++ ys)) ≡ (if marked then xs else a ∷ b ∷ c ∷ xs) ++ ys
  by_mark true = refl
  by_mark false = refl

unset : (b : Bool) → not b ≡ true → b ≡ false
unset true e = absurd (cc)
unset false e = refl

-- a text that begins plainly has no mark
pub plain_unmarked : (bytes : List ℕ) → begins_plainly bytes ≡ true → strip_bom bytes ≡ bytes
plain_unmarked [] plain = absurd (cc)
plain_unmarked (a ∷ rest) plain = no_mark a rest (unset (a == 239) plain)

-- ---- the law

pub cut_records : (bytes : List ℕ) (at : ℕ) → IsCut bytes at → records_of bytes ≡ records_of (take at bytes) ++ records_of (drop at bytes)
cut_records bytes at cut =
    let front = take at bytes in
    let rest = drop at bytes in
    let long : 3 ≤ length front = omega (arith, cut.front, cut.within, length-take-le at bytes (omega (arith, cut.within))) in
    ap records_of (sym (take-append-drop at bytes))
    ∙ ap (records_at comma st.StartRecord) (strip_bom-append front rest long)
    ∙ records_cut (suc (length (strip_bom front))) (strip_bom front) st.StartRecord rest (omega arith) refl cut.between
    ∙ ap (λ (text : List ℕ). records_of front ++ records_at comma st.StartRecord text) (sym (plain_unmarked rest cut.plain))

-- ---- pieces

-- one piece more is cut off
pub parted_more : (pieces new : List (Bor (List ℕ))) (piece : Bor (List ℕ)) (left rest : List ℕ) (at : ℕ) (all : List (List (List ℕ))) → IsCut left at →
    new ≡ pieces ++ piece ∷ [] → piece.now ≡ take at left → rest ≡ drop at left →
    flat_map records_of (map (λ p. p.now) pieces) ++ records_of left ≡ all → flat_map records_of (map (λ p. p.now) new) ++ records_of rest ≡ all
parted_more pieces new piece left rest at all cut pushed front back so_far =
    let old = flat_map records_of (map (λ (p : Bor (List ℕ)). p.now) pieces) in
    let longer : flat_map records_of (map (λ p. p.now) (pieces ++ piece ∷ [])) ≡ old ++ records_of piece.now =
    ap (flat_map records_of) (map-append (λ (p : Bor (List ℕ)). p.now) pieces (piece ∷ [])) ∙ flat_map-append records_of (map (λ (p : Bor (List ℕ)). p.now) pieces) (piece.now ∷ [])
    ∙ ap (λ (last : List (List (List ℕ))). old ++ last) (append-nil (records_of piece.now)) in
    ap (λ (ps : List (Bor (List ℕ))). flat_map records_of (map (λ p. p.now) ps) ++ records_of rest) pushed
    ∙ ap (λ (records : List (List (List ℕ))). records ++ records_of rest) longer
    ∙ append_assoc old (records_of piece.now) (records_of rest)
    ∙ ap (λ (records : List (List (List ℕ))). old ++ records) (ap₂ (λ (a b : List ℕ). records_of a ++ records_of b) front back ∙ sym (cut_records left at cut))
    ∙ so_far
