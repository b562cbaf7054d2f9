-- What a line of a script does.
use Rattle.std.specs.Prelude.{ℕ, ◌==◌, Bool, true, List, [], ◌∷◌, bytes_eq, codes, Option, Some, None, option_map, Result, Ok, Err, if◌then◌else◌}
use Rattle.std.specs.List.{after_first, before_first}
use Rattle.std.specs.Str.{is_utf8}
use Rattle.cells.specs.Reading.{schema_of}
use Rattle.cells.specs.Updates.{Delete, Put, Update}
use Rattle.cells.specs.Values.{RowValue, Table}
use Rattle.cells.specs.declared.cell.Cell.{Cell}
use Rattle.cells.specs.declared.refused.Refused.{Refused}
use Rattle.cells.specs.declared.refused.Refused.TheVariants.{BadCommand, BadKey, BadRecord, BadSchema, NoTable, TableAgain}
use Rattle.loader.specs.Records.{row_of_text}
use Rattle.script.specs.Keys.{key_of_text}
use Rattle.script.specs.declared.command.Command.{Command}
use Rattle.script.specs.declared.command.Command.TheVariants as command
use Rattle.script.specs.declared.fault.Fault.{Fault}
use Rattle.script.specs.declared.fault.Fault.TheVariants.{Line}

-- a line without bytes, and one that begins with `#`
abbrev pub is_comment : List ℕ → Bool
is_comment [] = true
is_comment (b ∷ bs) = b == 35

-- the command that a word names
abbrev pub command_named : List ℕ → Option Command
command_named word =
    if bytes_eq word (codes "table") then Some command.Table
    else (if bytes_eq word (codes "load") then Some command.Load
    else (if bytes_eq word (codes "put") then Some command.Put
    else (if bytes_eq word (codes "delete") then Some command.Delete
    else (if bytes_eq word (codes "publish") then Some command.Publish
    else (if bytes_eq word (codes "report") then Some command.Report
    else (if bytes_eq word (codes "shape") then Some command.Shape
    else None))))))

-- the command word ends at the first space, and the rest is everything after that space
abbrev pub command_in : List ℕ → Option (Command × List ℕ)
command_in text = option_map (λ c. (c, after_first (λ b. b == 32) text)) (command_named (before_first (λ b. b == 32) text))

-- a line that is not UTF-8 has no command
abbrev pub command_of : List ℕ → Option (Command × List ℕ)
command_of line = if is_utf8 line then command_in line else None

-- what an accepted line does
pub data Deed : Type 0 where
  Nothing : Deed
  Declares : (table : Table) → Deed
  -- the declared table and the text that lists parts, whatever it says
  Loads : (table : Table) (listing : List ℕ) → Deed
  Updates : (more : List Update) → Deed
  Publishes : Deed
  -- the declared table and the text that is asked, whatever it says
  Reports : (table : Table) (query : List ℕ) → Deed
  Shapes : Deed

-- the line is refused by a rule of its own
abbrev pub refuses : Refused → Result Deed Fault
refuses rule = Err (Line rule)

abbrev pub declares : Option Table → Result Deed Fault
declares None = refuses BadSchema
declares (Some t) = Ok (Declares t)

abbrev pub puts : Option RowValue → Result Deed Fault
puts None = refuses BadRecord
puts (Some row) = Ok (Updates (Put row ∷ []))

abbrev pub deletes : Option Cell → Result Deed Fault
deletes None = refuses BadKey
deletes (Some key) = Ok (Updates (Delete key ∷ []))

-- a publish with a rest is none
abbrev pub publishes : List ℕ → Result Deed Fault
publishes [] = Ok Publishes
publishes (b ∷ bs) = refuses BadCommand

-- nor is a shape
abbrev pub shapes : List ℕ → Result Deed Fault
shapes [] = Ok Shapes
shapes (b ∷ bs) = refuses BadCommand

abbrev pub deed_of : Option Table → Option (Command × List ℕ) → Result Deed Fault
deed_of declared None = refuses BadCommand
deed_of None (Some (command.Table, rest)) = declares (schema_of rest)
deed_of None (Some (command.Load, rest)) = refuses NoTable
deed_of None (Some (command.Put, rest)) = refuses NoTable
deed_of None (Some (command.Delete, rest)) = refuses NoTable
deed_of None (Some (command.Publish, rest)) = refuses NoTable
deed_of None (Some (command.Report, rest)) = refuses NoTable
deed_of None (Some (command.Shape, rest)) = refuses NoTable
deed_of (Some t) (Some (command.Table, rest)) = refuses TableAgain
deed_of (Some t) (Some (command.Load, rest)) = Ok (Loads t rest)
deed_of (Some t) (Some (command.Put, rest)) = puts (row_of_text t rest)
deed_of (Some t) (Some (command.Delete, rest)) = deletes (key_of_text t rest)
deed_of (Some t) (Some (command.Publish, rest)) = publishes rest
deed_of (Some t) (Some (command.Report, rest)) = Ok (Reports t rest)
deed_of (Some t) (Some (command.Shape, rest)) = shapes rest

-- what a line does under the declared table, or the first fault of its command; what is found where it is done comes behind
-- that: the faults of a load's listing and of its parts, the limit on rows, the faults of a query
abbrev pub deed : Option Table → List ℕ → Result Deed Fault
deed declared line = if is_comment line then Ok Nothing else deed_of declared (command_of line)
