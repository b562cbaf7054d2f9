-- Viewers whose blocks are written as they come: between those of the lines, each viewer's in its order. The lines before a line stand
-- with the last one first.
use Rattle.std.specs.Prelude.{◌≡◌, ◌≤◌, ◌+◌, ℕ, zero, suc, List, [], ◌∷◌, ◌++◌, length, Some, None, Err}
use Rattle.std.specs.Str.Lines.{lines}
use Rattle.cells.specs.Values.{Table}
use Rattle.cells.specs.declared.cell.Cell.{Cell}
use Rattle.cells.specs.declared.refused.Refused.{Refused}
use Rattle.cells.specs.declared.refused.Refused.TheVariants.{Limit, NoTable}
use Rattle.script.specs.Givens.{Givens}
use Rattle.script.specs.Limits.{part_limit, script_limit}
use Rattle.script.specs.Output.{IsBlock, IsTooMuch, declared, edition, editions}
use Rattle.script.specs.Says.{Says}
use Rattle.script.specs.Spelling.{refusal, viewers_refused}
use Rattle.script.specs.Stops.{IsRefusedLine, StopsAfter}
use Rattle.script.specs.Tails.{IsView, Viewing}
use Rattle.script.specs.declared.fault.Fault.TheVariants.{Line}
use Rattle.script.specs.declared.finish.Finish.{Finish}
use Rattle.script.specs.declared.finish.Finish.TheVariants.{Stopped, Through}
use Rattle.script.specs.declared.on_refusal.OnRefusal.{OnRefusal}
use Rattle.script.specs.declared.on_refusal.OnRefusal.TheVariants.{GoesOn}

-- a viewer whose last block is still to come: how many come before that, and the edition of the one that came last
pub record Turn : Type 0 where
  pub viewer : ℕ
  pub left : ℕ
  pub least : ℕ

-- so many viewers before their first blocks, from this one on
abbrev pub turns_from : ℕ → ℕ → ℕ → List Turn
turns_from viewer shots zero = []
turns_from viewer shots (suc more) = record { viewer = viewer; left = shots; least = 0 } ∷ turns_from (viewer + 1) shots more

-- all viewers before their first blocks
abbrev pub first_turns : Viewing → List Turn
first_turns viewing = turns_from 1 viewing.shots viewing.viewers

-- the bytes are a block of a viewer, on an edition that these lines published, and on none before this one
pub record IsViewSince (givens : Givens) (viewing : Viewing) (before : List (List ℕ)) (viewer least number : ℕ) (bytes : List ℕ) : Type 0 where
  pub table : Table
  pub declared : declared givens before ≡ Some table
  pub late : least ≤ number
  pub view : IsView givens.manner table (editions givens before) viewing.query viewer number bytes

-- one of the viewers, whichever, has the bytes for its next block; in what order viewers are listed tells nothing
pub record ShowsNext (givens : Givens) (viewing : Viewing) (before : List (List ℕ)) (old new : List Turn) (bytes : List ℕ) : Type 0 where
  pub viewer : ℕ
  pub left : ℕ
  pub least : ℕ
  pub number : ℕ
  pub earlier : List Turn
  pub others : List Turn
  pub front : List Turn
  pub back : List Turn
  pub was : old ≡ earlier ++ record { viewer = viewer; left = suc left; least = least } ∷ others
  pub same : earlier ++ others ≡ front ++ back
  pub is : new ≡ front ++ record { viewer = viewer; left = left; least = number } ∷ back
  pub view : IsViewSince givens viewing before viewer least number bytes

-- one of them has the bytes for its last block, which is on the last edition
pub record ShowsLast (givens : Givens) (viewing : Viewing) (before : List (List ℕ)) (old new : List Turn) (bytes : List ℕ) : Type 0 where
  pub viewer : ℕ
  pub least : ℕ
  pub earlier : List Turn
  pub others : List Turn
  pub was : old ≡ earlier ++ record { viewer = viewer; left = 0; least = least } ∷ others
  pub is : new ≡ earlier ++ others
  pub view : IsViewSince givens viewing before viewer least (edition givens before) bytes

-- there is nobody whose last block is still to come, or the bytes stand in place of all blocks
pub data IsAfterTurns (givens : Givens) (viewing : Viewing) (before : List (List ℕ)) : List Turn → List ℕ → Type 0 where
  nobody_left : IsAfterTurns givens viewing before [] []
  no_table : {turns : List Turn} → declared givens before ≡ None → IsAfterTurns givens viewing before turns (viewers_refused givens.manner.form NoTable)
  refused_query : {turns : List Turn} {t : Table} {fault : Refused} → declared givens before ≡ Some t → Says t [] viewing.query (Err fault) →
      IsAfterTurns givens viewing before turns (viewers_refused givens.manner.form fault)

-- the bytes are the blocks of the lines that follow those before, and between and after them those of the viewers: of all
-- lines, or up to the first after which the run stops, and with it
pub data AreBlocksBeside (hash : Cell → ℕ) (givens : Givens) (on : OnRefusal) (viewing : Viewing) : List (List ℕ) → List (List ℕ) → List Turn → Finish → List ℕ → Type 0 where
  lines_end : {before : List (List ℕ)} {turns : List Turn} {bytes : List ℕ} → IsAfterTurns givens viewing before turns bytes → AreBlocksBeside hash givens on viewing before [] turns Through bytes
  stopped_at : {before later : List (List ℕ)} {line bytes : List ℕ} {turns : List Turn} →
      IsBlock hash givens before line bytes → StopsAfter on (IsRefusedLine givens before line) →
      AreBlocksBeside hash givens on viewing before (line ∷ later) turns Stopped bytes
  line_next : {before later : List (List ℕ)} {line : List ℕ} {turns : List Turn} {finish : Finish} (bytes rest : List ℕ) →
      IsBlock hash givens before line bytes → (StopsAfter on (IsRefusedLine givens before line) → ⊥) → AreBlocksBeside hash givens on viewing (line ∷ before) later turns finish rest →
      AreBlocksBeside hash givens on viewing before (line ∷ later) turns finish (bytes ++ rest)
  view_next : {before later : List (List ℕ)} {turns after : List Turn} {finish : Finish} (bytes rest : List ℕ) →
      ShowsNext givens viewing before turns after bytes → AreBlocksBeside hash givens on viewing before later after finish rest →
      AreBlocksBeside hash givens on viewing before later turns finish (bytes ++ rest)
  view_at_last : {before : List (List ℕ)} {turns after : List Turn} (bytes rest : List ℕ) →
      ShowsLast givens viewing before turns after bytes → AreBlocksBeside hash givens on viewing before [] after Through rest →
      AreBlocksBeside hash givens on viewing before [] turns Through (bytes ++ rest)

-- the bytes are what a live run writes whose viewers show their blocks as they come; a script beyond a limit is refused as
-- a whole
pub data IsLiveBeside (hash : Cell → ℕ) (givens : Givens) (viewing : Viewing) (script : List ℕ) : List ℕ → Type 0 where
  too_much : IsTooMuch givens script → IsLiveBeside hash givens viewing script (refusal givens.manner.form 0 (Line Limit) ++ viewers_refused givens.manner.form NoTable)
  of_lines : {bytes : List ℕ} → length script ≤ script_limit → length givens.parts ≤ part_limit →
      AreBlocksBeside hash givens GoesOn viewing [] (lines script) (first_turns viewing) Through bytes → IsLiveBeside hash givens viewing script bytes
