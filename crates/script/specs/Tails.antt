-- What viewers beside a script write behind its output: a live tail. The lines before a line stand with the last one first.
use Rattle.std.specs.Prelude.{◌≡◌, ◌≤◌, ℕ, suc, ◌+◌, List, [], ◌++◌, length, reverse, Some, None, Ok, Err}
use Rattle.std.specs.List.{slice_get}
use Rattle.std.specs.Str.Lines.{lines}
use Rattle.cells.specs.Values.{RowValue, Table}
use Rattle.cells.specs.declared.cell.Cell.{Cell}
use Rattle.cells.specs.declared.refused.Refused.{Refused}
use Rattle.cells.specs.declared.refused.Refused.TheVariants.{NoTable}
use Rattle.script.specs.Givens.{Givens}
use Rattle.script.specs.Limits.{part_limit, script_limit}
use Rattle.script.specs.Output.{InTwo, IsOutput, IsTooMuch, declared, edition, editions}
use Rattle.script.specs.Says.{Answer, Says, spelt}
use Rattle.script.specs.Spelling.{view_heading, viewers_refused}
use Rattle.script.specs.declared.manner.Manner.{Manner}
use Rattle.script.specs.declared.viewing.Viewing.{Viewing as Asked}

-- what viewers are asked, as contracts see it
abbrev pub Viewing : Type 0
Viewing = Asked (List ℕ)

-- the bytes are a block of the viewer: its heading, and what the query says over the rows of the edition
pub record IsView (manner : Manner) (t : Table) (all : List (List RowValue)) (query : List ℕ) (viewer number : ℕ) (bytes : List ℕ) : Type 0 where
  pub rows : List RowValue
  pub answer : Answer
  pub at : slice_get all number ≡ Some rows
  pub says : Says t rows query (Ok answer)
  pub is : bytes ≡ view_heading manner.form viewer number ++ spelt manner answer

-- so many blocks of the viewer, and then its last one: none is on an earlier edition than the one before it, and the last
-- is on the last edition
pub data AreViews (manner : Manner) (t : Table) (all : List (List RowValue)) (query : List ℕ) (last viewer : ℕ) : ℕ → ℕ → List ℕ → Type 0 where
  last_view : {least : ℕ} {bytes : List ℕ} → least ≤ last → IsView manner t all query viewer last bytes → AreViews manner t all query last viewer least 0 bytes
  view_first : {least number count : ℕ} (bytes rest : List ℕ) → least ≤ number → IsView manner t all query viewer number bytes →
      AreViews manner t all query last viewer number count rest → AreViews manner t all query last viewer least (suc count) (bytes ++ rest)

-- the blocks of so many viewers, from this one on
pub data AreViewers (manner : Manner) (t : Table) (all : List (List RowValue)) (last : ℕ) (viewing : Viewing) : ℕ → ℕ → List ℕ → Type 0 where
  no_viewer : {viewer : ℕ} → AreViewers manner t all last viewing viewer 0 []
  viewer_first : {viewer count : ℕ} (bytes rest : List ℕ) → AreViews manner t all viewing.query last viewer 0 viewing.shots bytes →
      AreViewers manner t all last viewing (viewer + 1) count rest → AreViewers manner t all last viewing viewer (suc count) (bytes ++ rest)

-- the bytes are a live tail behind these lines: no table was declared, the query is refused, or the viewers have their blocks
pub data IsTailBehind (givens : Givens) (viewing : Viewing) (before : List (List ℕ)) : List ℕ → Type 0 where
  undeclared : declared givens before ≡ None → IsTailBehind givens viewing before (viewers_refused givens.manner.form NoTable)
  turned_away : {t : Table} {fault : Refused} → declared givens before ≡ Some t → Says t [] viewing.query (Err fault) →
      IsTailBehind givens viewing before (viewers_refused givens.manner.form fault)
  viewed : {t : Table} {bytes : List ℕ} → declared givens before ≡ Some t →
      AreViewers givens.manner t (editions givens before) (edition givens before) viewing 1 viewing.viewers bytes → IsTailBehind givens viewing before bytes

-- the bytes are a live tail of the script; one beyond a limit declares no table
pub data IsTail (givens : Givens) (viewing : Viewing) (script : List ℕ) : List ℕ → Type 0 where
  too_much : IsTooMuch givens script → IsTail givens viewing script (viewers_refused givens.manner.form NoTable)
  of_lines : {bytes : List ℕ} → length script ≤ script_limit → length givens.parts ≤ part_limit →
      IsTailBehind givens viewing (reverse (lines script)) bytes → IsTail givens viewing script bytes

-- the bytes are what a live run writes: the script's output, and then a live tail
abbrev pub IsLive : (Cell → ℕ) → Givens → Viewing → List ℕ → List ℕ → Type 0
IsLive hash givens viewing script bytes = InTwo (IsOutput hash givens script) (IsTail givens viewing script) bytes
