-- After a byte that ends a record, the reader stands between two records.
use Rattle.std.proofs.Common.{refl}
use Rattle.std.specs.Prelude.{◌≡◌, ◌==◌, ℕ, Bool, true, false, if◌then◌else◌}
use Rattle.csv.specs.Machine.{step, is_end, ends_at_end, ends_with, after_end, in_field, start_field, start_record}
use Rattle.records.specs.Records.{config_of}
use Rattle.csv.specs.declared.parser.State.{State}
use Rattle.csv.specs.declared.parser.State.TheVariants as st
use Rattle.csv.specs.declared.parser.Action.{Action}
use Rattle.csv.specs.declared.parser.Action.TheVariants as act

-- where a byte ends a record, the end of the text then ends none
abbrev pub EndsWell : State × Action → Type 0
EndsWell p = is_end p.1 ≡ true → ends_at_end p.0 ≡ false

-- either of two steps that end well
pick : (b : Bool) (p q : State × Action) → EndsWell p → EndsWell q → EndsWell (if b then p else q)
pick true p q x y = x
pick false p q x y = y

-- after a line break a record may begin
after_end_well : (d c : ℕ) → ends_at_end (after_end (config_of d).terminator c) ≡ false
after_end_well d c = go (c == 13) where
  go : (b : Bool) → ends_at_end (if b then st.AfterCr else st.StartRecord) ≡ false
  go true = refl
  go false = refl

-- a step that ends no record
skips : (s : State) → EndsWell (s, act.Skip)
skips s e = cc

copies : (s : State) → EndsWell (s, act.Copy)
copies s e = cc

in_field_well : (d c : ℕ) → EndsWell (in_field (config_of d) c)
in_field_well d c = pick (c == d) _ _ (λ e. cc)
    (pick (ends_with (config_of d).terminator c) (after_end (config_of d).terminator c, act.EndRecord) _ (λ e. after_end_well d c) (copies st.InField))

start_field_well : (d c : ℕ) → EndsWell (start_field (config_of d) c)
start_field_well d c = pick (c == 34) _ (in_field (config_of d) c) (skips st.InQuoted) (in_field_well d c)

start_record_well : (d c : ℕ) → EndsWell (start_record (config_of d) c)
start_record_well d c = pick (ends_with (config_of d).terminator c) _ (start_field (config_of d) c) (skips st.StartRecord) (start_field_well d c)

-- each step of the reader ends well
pub step_well : (d : ℕ) (s : State) (c : ℕ) → EndsWell (step (config_of d) s c)
step_well d st.StartRecord c = start_record_well d c
step_well d st.StartField c = start_field_well d c
step_well d st.InField c = in_field_well d c
step_well d st.InQuoted c = pick (c == 34) _ _ (skips st.AfterQuote) (copies st.InQuoted)
step_well d st.InEscape c = copies st.InQuoted
step_well d st.AfterQuote c = pick (c == 34) _ (in_field (config_of d) c) (copies st.InQuoted) (in_field_well d c)
step_well d st.InComment c = pick (c == 10) _ _ (skips st.StartRecord) (skips st.InComment)
step_well d st.AfterCr c = pick (c == 10) _ (start_record (config_of d) c) (skips st.StartRecord) (start_record_well d c)
