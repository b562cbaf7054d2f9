-- What a line's block is by what shards tell. The lines before a line stand with the last one first.
use Rattle.std.specs.Prelude.{◌≡◌, ◌+◌, ℕ, Bool, true, false, List, length, Result}
use Rattle.cells.specs.Values.{RowValue}
use Rattle.cells.specs.declared.cell.Cell.{Cell}
use Rattle.groups.specs.Groups.{kept}
use Rattle.groups.specs.Told.{Tells}
use Rattle.query.specs.Plans.{PlanTree}
use Rattle.script.specs.Deeds.{Deed}
use Rattle.script.specs.Givens.{Givens}
use Rattle.script.specs.Output.{IsAnswer, edition, is_publish, updates}
use Rattle.script.specs.Told.{Fits, IsTold}
use Rattle.script.specs.Walks.{IsDoing}
use Rattle.script.specs.declared.fault.Fault.{Fault}
use Rattle.script.specs.declared.manner.Manner.{Manner}
use Rattle.script.specs.declared.told.Told.{Told}
use Rattle.script.specs.declared.told.Told.TheVariants as told
use Rattle.script.specs.declared.walk.Doing.{Doing}
use Rattle.script.specs.declared.walk.Walk.{Walk}

-- what is told is what the plan keeps of the rows
abbrev pub TellsKept : PlanTree → List RowValue → Told → Type 0
TellsKept plan rs told.Nothing = ⊥
TellsKept plan rs (told.Refused fault) = ⊥
TellsKept plan rs (told.Kept sets) = Tells plan (kept plan.condition rs) sets.items

-- the bytes are the block of a line, just gone over, that does this, where this is told of it of all rows
pub record GivesBlock (manner : Manner) (walk : Walk) (doing : Doing) (told : Told) (bytes : List ℕ) : Type 0 where
  pub is : (hash : Cell → ℕ) (givens : Givens) (all : Cell → Bool) (before : List (List ℕ)) (does : Result Deed Fault) → givens.manner ≡ manner → ((key : Cell) → all key ≡ true) →
      walk.number ≡ length before + 1 → (is_publish does ≡ false → walk.edition ≡ edition givens before) → IsDoing walk.schema does doing →
      Fits givens (updates givens before) does → IsTold givens all before does told → IsAnswer hash givens before does bytes
