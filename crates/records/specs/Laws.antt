-- Each record that is read takes bytes, so the records of a text are those of one read after another.
use Rattle.std.proofs.Common.{add-one, arith, refl, ap, subst, ◌∙◌}
use Rattle.std.specs.Prelude.{◌≡◌, ◌<◌, ◌≤◌, ◌+◌, ◌++◌, ℕ, zero, suc, Bool, true, false, List, [], ◌∷◌, Option, Some, None, length, if◌then◌else◌}
use Rattle.csv.specs.Machine.{Read, next_record, step, is_end, ends_at_end, fields_after, field_after}
use Rattle.csv.specs.Reading.{is_bom, records_from, records_next, strip_bom}
use Rattle.csv.specs.declared.parser.State.{State}
use Rattle.csv.specs.declared.parser.State.TheVariants as st
use Rattle.records.specs.Records.{config_of, records_at, records_of}
use Rattle.records.specs.Ends.{step_well}

-- a record leaves no more bytes than there were, and the reader between two records
abbrev Leaves : ℕ → Read → Type 0
Leaves n p = (length p.2 ≤ n) × (ends_at_end p.1 ≡ false)

-- what the definition gives is what leaves so
some_is : (n : ℕ) (p q : Read) → Some q ≡ Some p → Leaves n q → Leaves n p
some_is n p q e h = let same : q ≡ p = cc in subst (Leaves n) same h

-- what is read after a byte
abbrev taken : ℕ → State → List (List ℕ) → List ℕ → ℕ → List ℕ → Option Read
taken d s fields field c rest =
    next_record (config_of d) (step (config_of d) s c).0 (fields_after (step (config_of d) s c).1 fields field) (field_after (step (config_of d) s c).1 c field) rest

-- a byte ends the record, or what is read after it does
by_step : (d : ℕ) (s : State) (fields : List (List ℕ)) (field : List ℕ) (c : ℕ) (rest : List ℕ) (p : Read)
    → (taken d s fields field c rest ≡ Some p → Leaves (length rest) p)
    → (b : Bool) → is_end (step (config_of d) s c).1 ≡ b
    → (if b then Some (fields_after (step (config_of d) s c).1 fields field, (step (config_of d) s c).0, rest) else taken d s fields field c rest) ≡ Some p
    → Leaves (length rest) p
by_step d s fields field c rest p more true ends e =
    some_is _ p (fields_after (step (config_of d) s c).1 fields field, (step (config_of d) s c).0, rest) e (omega arith, step_well d s c ends)
by_step d s fields field c rest p more false goes e = more e

-- a record that was begun leaves so
leaves : (d : ℕ) (xs : List ℕ) (s : State) (fields : List (List ℕ)) (field : List ℕ) (p : Read)
    → next_record (config_of d) s fields field xs ≡ Some p → Leaves (length xs) p
unfolding next_record
leaves d [] s fields field p e = at_end (ends_at_end s) e where
  at_end : (b : Bool) → (if b then Some (fields ++ (field ∷ []), st.StartRecord, []) else None) ≡ Some p → Leaves 0 p
  at_end true k = some_is 0 p (fields ++ (field ∷ []), st.StartRecord, []) k (omega arith, refl)
  at_end false k = cc
leaves d (c ∷ rest) s fields field p e =
    let h = by_step d s fields field c rest p (λ k. leaves d rest _ _ _ p k) (is_end (step (config_of d) s c).1) refl e in
    (omega arith, h.1)

-- from between two records, a record takes a byte at least
takes_bytes : (d : ℕ) (xs : List ℕ) (s : State) (p : Read) → ends_at_end s ≡ false → next_record (config_of d) s [] [] xs ≡ Some p
    → (length p.2 < length xs) × (ends_at_end p.1 ≡ false)
unfolding next_record
takes_bytes d [] s p between e = none (ends_at_end s) between e where
  none : (b : Bool) → b ≡ false → (if b then Some ([] ++ ([] ∷ []), st.StartRecord, []) else None) ≡ Some p → (length p.2 < 0) × (ends_at_end p.1 ≡ false)
  none true k l = cc
  none false k l = cc
takes_bytes d (c ∷ rest) s p between e =
    let h = by_step d s [] [] c rest p (λ k. leaves d rest _ _ _ p k) (is_end (step (config_of d) s c).1) refl e in
    (omega arith, h.1)

-- any number of turns above the number of bytes is enough
enough : (d : ℕ) (n m : ℕ) (s : State) (xs : List ℕ) → ends_at_end s ≡ false → length xs < n → length xs < m
    → records_from (config_of d) n s xs ≡ records_from (config_of d) m s xs
unfolding records_from
enough d zero m s xs between a b = absurd (omega arith)
enough d (suc n) zero s xs between a b = absurd (omega arith)
enough d (suc n) (suc m) s xs between a b =
    same (next_record (config_of d) s [] [] xs) (λ p e. let h = takes_bytes d xs s p between e in
    enough d n m p.1 p.2 h.1 (omega arith) (omega arith)) where
      same : (o : Option Read) → ((p : Read) → o ≡ Some p → records_from (config_of d) n p.1 p.2 ≡ records_from (config_of d) m p.1 p.2)
          → records_next (records_from (config_of d) n) o ≡ records_next (records_from (config_of d) m) o
      same None h = refl
      same (Some p) h = ap (λ (rest : List (List (List ℕ))). p.0 ∷ rest) (h p refl)

-- one turn of the definition
turn : (d : ℕ) (n : ℕ) (s : State) (xs : List ℕ)
    → records_from (config_of d) (n + 1) s xs ≡ records_next (records_from (config_of d) n) (next_record (config_of d) s [] [] xs)
unfolding records_from
turn d n s xs = rw add-one refl

-- what is left is the next record and what is left after it
pub records_at-more : (d : ℕ) (s : State) (xs : List ℕ) (p : Read) → ends_at_end s ≡ false → next_record (config_of d) s [] [] xs ≡ Some p
    → (records_at d s xs ≡ p.0 ∷ records_at d p.1 p.2) × (ends_at_end p.1 ≡ false)
records_at-more d s xs p between e =
    let h = takes_bytes d xs s p between e in (
      turn d (length xs) s xs
          ∙ ap (records_next (records_from (config_of d) (length xs))) e
          ∙ ap (λ (rest : List (List (List ℕ))). p.0 ∷ rest) (enough d (length xs) (length p.2 + 1) p.1 p.2 h.1 h.0 (omega arith)),
      h.1,
    )

-- where no record is, none is left
pub records_at-end : (d : ℕ) (s : State) (xs : List ℕ) → next_record (config_of d) s [] [] xs ≡ None → records_at d s xs ≡ []
records_at-end d s xs e = turn d (length xs) s xs ∙ ap (records_next (records_from (config_of d) (length xs))) e

-- ---- how many records

records_next_few : (f : State → List ℕ → List (List (List ℕ))) (most : ℕ) → ((s : State) (bytes : List ℕ) → length (f s bytes) ≤ most) → (o : Option Read) → length (records_next f o) ≤ most + 1
records_next_few f most few None = omega arith
records_next_few f most few (Some read) = let some = few read.1 read.2 in omega (arith, some)

records_from_few : (d turns : ℕ) (s : State) (bytes : List ℕ) → length (records_from (config_of d) turns s bytes) ≤ turns
unfolding records_from
records_from_few d zero s bytes = omega arith
records_from_few d (suc turns) s bytes =
    let some = records_next_few (records_from (config_of d) turns) turns (records_from_few d turns) (next_record (config_of d) s [] [] bytes) in omega (arith, some)

either_short : (marked : Bool) (bytes rest : List ℕ) → length rest ≤ length bytes → length (if marked then rest else bytes) ≤ length bytes
either_short true bytes rest short = short
either_short false bytes rest short = omega arith

strip_bom_short : (bytes : List ℕ) → length (strip_bom bytes) ≤ length bytes
unfolding strip_bom
strip_bom_short [] = omega arith
strip_bom_short (a ∷ []) = omega arith
strip_bom_short (a ∷ b ∷ []) = omega arith
strip_bom_short (a ∷ b ∷ c ∷ rest) = either_short (is_bom a b c) (a ∷ b ∷ c ∷ rest) rest (omega arith)

-- a text has one record more than bytes at the most
pub few_records : (d : ℕ) (bytes : List ℕ) → length (records_of d bytes) ≤ length bytes + 1
few_records d bytes =
    let some = records_from_few d (length (strip_bom bytes) + 1) st.StartRecord (strip_bom bytes) in
    let short = strip_bom_short bytes in
    omega (arith, some, short)

-- and after its first record no more than bytes
pub few_after : (d : ℕ) (bytes : List ℕ) (first : List (List ℕ)) (later : List (List (List ℕ))) → records_of d bytes ≡ first ∷ later → length later ≤ length bytes
few_after d bytes first later took = let few = few_records d bytes in omega (arith, few, ap length took)
