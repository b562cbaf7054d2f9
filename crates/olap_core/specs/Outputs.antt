-- What a program in another language is told: the output of a script, or why there is none.
use Rattle.std.specs.Prelude.{◌≡◌, ⊤, ◌==◌, ◌<◌, ◌≤◌, ℕ, List, [], ◌∷◌, ◌++◌, length, take, drop, nat_lt, if◌then◌else◌, Option, Some, None, option_map}
use Rattle.cells.specs.Hashes.{fnv_hash}
use Rattle.forms.specs.declared.form.Form.{Form}
use Rattle.forms.specs.declared.form.Form.TheVariants as form
use Rattle.olap_core.specs.declared.fault.Fault.{Fault}
use Rattle.olap_core.specs.declared.fault.Fault.TheVariants as fault
use Rattle.script.specs.Limits.{IsWithin}
use Rattle.script.specs.Limits as limits
use Rattle.script.specs.Manners.{in_form}
use Rattle.script.specs.Output.{IsOutput}

-- the form of a number
abbrev pub form_numbered : ℕ → Option Form
form_numbered number =
    if number == 0 then Some form.Classic
    else (if number == 1 then Some form.Csv
    else (if number == 2 then Some form.Json
    else (if number == 3 then Some form.Table
    else None)))

-- the parts of these lengths, which lie one after another in the bytes; none where they are not all of the bytes
abbrev pub cut_by : List ℕ → List ℕ → Option (List (List ℕ))
cut_by [] [] = Some []
cut_by [] (b ∷ bs) = None
cut_by (n ∷ ns) bytes = if nat_lt (length bytes) n then None else option_map (λ parts. take n bytes ∷ parts) (cut_by ns (drop n bytes))

-- the text is the output of the script with these parts, told in the form of this number, over a draft of at most so many rows
pub record IsOutputOf (number rows : ℕ) (script bytes lengths text : List ℕ) : Type 0 where
  pub told : Form
  pub named : form_numbered number ≡ Some told
  pub within : IsWithin limits.rows rows
  pub parts : List (List ℕ)
  pub cut : cut_by lengths bytes ≡ Some parts
  pub is : IsOutput fnv_hash (record { manner = in_form told; limit = rows; parts = parts }) script text

-- why there is none; nothing is said of memory
abbrev pub IsFault : ℕ → ℕ → List ℕ → List ℕ → Fault → Type 0
IsFault number rows bytes lengths fault.BadForm = form_numbered number ≡ None
IsFault number rows bytes lengths fault.BadRows = IsWithin limits.rows rows → ⊥
IsFault number rows bytes lengths fault.BadLengths = cut_by lengths bytes ≡ None
IsFault number rows bytes lengths fault.OutOfMemory = ⊤

abbrev pub number_of : Fault → ℕ
number_of fault.BadForm = 2
number_of fault.BadRows = 3
number_of fault.BadLengths = 4
number_of fault.OutOfMemory = 5

-- the text stands in front now, and its length is told; or it is too long, and all stays but the length
pub data HandsOut (text old new : List ℕ) (told : ℕ) : ℕ → Type 0 where
  fits : length text ≤ length old → new ≡ text ++ drop (length text) old → told ≡ length text → HandsOut text old new told 0
  too_long : length old < length text → new ≡ old → told ≡ length text → HandsOut text old new told 1

-- the output was handed out so; or there is none, and all stays
pub data Answers (number rows : ℕ) (script bytes lengths old new : List ℕ) (told_old told_new : ℕ) (status : ℕ) : Type 0 where
  handed : {text : List ℕ} → IsOutputOf number rows script bytes lengths text → HandsOut text old new told_new status → Answers number rows script bytes lengths old new told_old told_new status
  refused : (why : Fault) → IsFault number rows bytes lengths why → status ≡ number_of why → new ≡ old → told_new ≡ told_old → Answers number rows script bytes lengths old new told_old told_new status
