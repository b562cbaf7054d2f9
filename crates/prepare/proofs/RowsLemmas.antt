-- The records of parts, one part after another.
use Rattle.std.proofs.Common.{refl, ap, sym, ◌∙◌, ◌≡◌, Bool, true, false, ℕ, List, [], ◌∷◌, ◌++◌, drop}
use Rattle.std.proofs.lemmas.List.Concat.{flat_map-cons}
use Rattle.std.specs.Bool.{MatchBool}
use Rattle.csv.specs.Machine.{next_record}
use Rattle.csv.specs.Reading.{strip_bom}
use Rattle.csv.specs.Writing.{comma}
use Rattle.csv.specs.declared.parser.State.TheVariants as st
use Rattle.records.specs.Records.{Fields, records_of}
use Rattle.prepare.specs.Proposals.{rows_of}
use Rattle.records.specs.Laws.{records_at-end}

-- no byte is no record
none_in_nothing : records_of comma [] ≡ []
unfolding next_record strip_bom
none_in_nothing = records_at-end comma st.StartRecord [] refl

-- a reader that is at the end of a text without a byte
pub before_all : (left later : List Fields) → left ≡ records_of comma [] → left ++ later ≡ later
before_all left later is = ap (λ front. front ++ later) (is ∙ none_in_nothing)

-- the first record was taken, if there was one
pub took_header : (found : Bool) (fields : List (List ℕ)) (before after : List Fields) → MatchBool found (before ≡ fields ∷ after) ((before ≡ []) × (after ≡ [])) → after ≡ drop 1 before
took_header true fields before after took = sym (ap (drop 1) took)
took_header false fields before after none = none.1 ∙ sym (ap (drop 1) none.0)

-- the next part was begun
pub next_part : (part : List ℕ) (later : List (List ℕ)) (records : List Fields) → records ≡ drop 1 (records_of comma part) → rows_of (part ∷ later) ≡ records ++ rows_of later
next_part part later records is = flat_map-cons (λ p. drop 1 (records_of comma p)) part later ∙ ap (λ front. front ++ rows_of later) (sym is)
