-- Lines that change the table: a put, a delete or a publish, which writes nothing where it is accepted. The lines before a line
-- stand with the last one first.
use Rattle.std.specs.Prelude.{◌≡◌, ℕ, List, [], Option, Some, None, Result, Ok, Err, is_some, ⊤}
use Rattle.cells.specs.Values.{Table}
use Rattle.cells.specs.declared.cell.Cell.{Cell}
use Rattle.cells.specs.declared.refused.Refused.{Refused}
use Rattle.forms.specs.declared.form.Form.{Form}
use Rattle.script.specs.Deeds.{Declares, Deed, Loads, Nothing, Publishes, Reports, Shapes, Updates, deed}
use Rattle.script.specs.Endings.{refusal_named}
use Rattle.script.specs.Givens.{Givens}
use Rattle.script.specs.Sessions.{Hearing, IsRefusedAfter, IsReply, ended_by, next_number, with_line}
use Rattle.script.specs.Spelling.{refusal}
use Rattle.script.specs.Stops.{Tells}
use Rattle.script.specs.declared.ended.Ended.TheVariants.{OutOfMemory}
use Rattle.script.specs.declared.fault.Fault.{Fault}
use Rattle.script.specs.declared.fault.Fault.TheVariants.{Line, Part}
use Rattle.script.specs.declared.undone.Undone.{Undone}
use Rattle.script.specs.declared.undone.Undone.TheVariants as undone

-- a line that does this changes the table, or is refused by a rule of its own
abbrev pub IsChange : Result Deed Fault → Type 0
IsChange (Ok Nothing) = ⊥
IsChange (Ok (Declares t)) = ⊥
IsChange (Ok (Loads t listing)) = ⊥
IsChange (Ok (Updates more)) = ⊤
IsChange (Ok Publishes) = ⊤
IsChange (Ok (Reports t query)) = ⊥
IsChange (Ok Shapes) = ⊥
IsChange (Err (Line rule)) = ⊤
IsChange (Err (Part part entry)) = ⊥

-- so does the line, whatever table is declared
abbrev pub IsChangeLine : List ℕ → Type 0
IsChangeLine line = (declared : Option Table) → IsChange (deed declared line)

-- it is refused by this rule
abbrev pub Refuses : Result Deed Fault → Option Refused → Type 0
Refuses said None = ⊥
Refuses said (Some rule) = said ≡ Err (Line rule)

-- the block of such a line, by the rule that refuses it, where one does
abbrev pub change_text : Form → ℕ → Option Refused → List ℕ
change_text form number None = []
change_text form number (Some rule) = refusal form number (Line rule)

-- the line that comes after these is refused by this rule, or by none: so says its reply
pub record IsRuled (hash : Cell → ℕ) (givens : Givens) (before : List (List ℕ)) (line : List ℕ) (rule : Option Refused) : Type 0 where
  pub reply : IsReply hash givens before line (change_text givens.manner.form (next_number before) rule)
  pub tells : Tells (is_some rule) (IsRefusedAfter givens before line)

-- what a session answers that takes in the values of the line: that they are in, the rule that refuses the line, or that it ends
-- for want of memory
abbrev pub Takes : {T : Type 0} → (Cell → ℕ) → Givens → List (List ℕ) → List ℕ → Result T Undone → Type 0
Takes hash givens before line (Ok x) = IsRuled hash givens before line None
Takes hash givens before line (Err (undone.Refused rule)) = IsRuled hash givens before line (Some rule)
Takes hash givens before line (Err (undone.Ended why)) = why ≡ OutOfMemory

-- the session after that: the line counts, unless the session is over
abbrev pub taken_in : {T : Type 0} → Hearing → List ℕ → Result T Undone → Hearing
taken_in session line (Ok x) = with_line session line
taken_in session line (Err (undone.Refused rule)) = with_line session line
taken_in session line (Err (undone.Ended why)) = ended_by session why

-- the refusal of the rule, or of the name of the end
abbrev pub refusal_of : Undone → Refused
refusal_of (undone.Refused rule) = rule
refusal_of (undone.Ended why) = refusal_named why
