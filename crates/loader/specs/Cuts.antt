-- Where a text of CSV may be cut, and pieces whose records are those of the text.
use Rattle.std.specs.Prelude.{◌≡◌, ◌<◌, ◌≤◌, ◌-◌, ◌++◌, ◌==◌, Bool, true, false, ℕ, List, [], ◌∷◌, Option, Some, None, drop, get_or, length, take}
use Rattle.std.specs.List.{flat_map}
use Rattle.csv.specs.Machine.{step}
use Rattle.csv.specs.Reading.{default_config, strip_bom}
use Rattle.csv.specs.declared.parser.State.{State}
use Rattle.csv.specs.declared.parser.State.TheVariants as st
use Rattle.loader.specs.Records.{begins_plainly, records_of}

-- the state behind these bytes
abbrev pub state_after : State → List ℕ → State
state_after s [] = s
state_after s (c ∷ rest) = state_after (step default_config s c).0 rest

-- the text may be cut at this place: what is before it is longer than a byte order mark and ends between two records, and what is
-- behind it does not begin as a byte order mark does
pub record IsCut (bytes : List ℕ) (at : ℕ) : Type 0 where
  pub front : 3 ≤ at
  pub within : at < length bytes
  pub between : state_after st.StartRecord (strip_bom (take at bytes)) ≡ st.StartRecord
  pub plain : begins_plainly (drop at bytes) ≡ true

-- a line begins at this place, but not as a byte order mark does
pub record IsLineEnd (bytes : List ℕ) (at : ℕ) : Type 0 where
  pub front : 3 ≤ at
  pub within : at < length bytes
  pub feed : get_or bytes (at - 1) 0 ≡ 10
  pub plain : begins_plainly (drop at bytes) ≡ true

-- the first place from this one on that is so, or that none is
abbrev pub IsFirst : (ℕ → Type 0) → ℕ → Option ℕ → Type 0
IsFirst is from None = (place : ℕ) → from ≤ place → is place → ⊥
IsFirst is from (Some at) = (from ≤ at) × is at × ((place : ℕ) → from ≤ place → place < at → is place → ⊥)

-- a record may begin at once
abbrev pub is_start : State → Bool
is_start st.StartRecord = true
is_start st.StartField = false
is_start st.InField = false
is_start st.InQuoted = false
is_start st.AfterQuote = false
is_start st.InEscape = false
is_start st.InComment = false
is_start st.AfterCr = false

abbrev pub is_quote : ℕ → Bool
is_quote b = b == 34

-- the records of the pieces, those of one behind those of another, are those of the text, and if there are later pieces, the first
-- one has a record
pub record IsCutInto (bytes first : List ℕ) (later : List (List ℕ)) : Type 0 where
  pub records : records_of bytes ≡ records_of first ++ flat_map records_of later
  pub header : records_of first ≡ [] → later ≡ []

-- a text is cut into one piece at least
abbrev pub AreCut : List ℕ → List (List ℕ) → Type 0
AreCut bytes [] = ⊥
AreCut bytes (first ∷ later) = IsCutInto bytes first later
