-- What the readers of lines answer, as deeds.
use Rattle.std.specs.Prelude.{[], ◌∷◌, Option, Some, None, Result, ⊤}
use Rattle.cells.specs.Fitting.{IsRowOf}
use Rattle.cells.specs.Refusals.{ReadsBy}
use Rattle.cells.specs.Updates.{Delete, Put}
use Rattle.cells.specs.Values.{Table}
use Rattle.cells.specs.declared.refused.Refused.TheVariants.{OutOfMemory}
use Rattle.script.specs.Deeds.{Declares, Deed, Loads, Nothing, Publishes, Reports, Shapes, Updates}
use Rattle.script.specs.declared.fault.Fault.{Fault}
use Rattle.script.specs.declared.fault.Fault.TheVariants.{Line}
use Rattle.script.specs.declared.statement.Statement.{Statement}
use Rattle.script.specs.declared.statement.Statement.TheVariants as statement

-- a line before there is a table declares one, or does nothing
abbrev pub first_deed : Option Table → Deed
first_deed None = Nothing
first_deed (Some t) = Declares t

-- what a statement does under the declared table
abbrev pub deed_of_statement : Table → Statement → Deed
deed_of_statement t statement.Nothing = Nothing
deed_of_statement t (statement.Load listing) = Loads t listing.now
deed_of_statement t (statement.Put row) = Updates (Put row ∷ [])
deed_of_statement t (statement.Delete key) = Updates (Delete key ∷ [])
deed_of_statement t statement.Publish = Publishes
deed_of_statement t (statement.Report query) = Reports t query.now
deed_of_statement t statement.Shape = Shapes

-- the statement is what the line says, or its first fault; memory may be wanting
abbrev pub Asks : Table → Result Deed Fault → Result Statement Fault → Type 0
Asks t said result = ReadsBy (Line OutOfMemory) (deed_of_statement t) said result

-- the statement may stand in a script of the table: what it puts is a row of it
abbrev pub IsStatementOf : Table → Statement → Type 0
IsStatementOf t statement.Nothing = ⊤
IsStatementOf t (statement.Load listing) = ⊤
IsStatementOf t (statement.Put row) = IsRowOf t row
IsStatementOf t (statement.Delete key) = ⊤
IsStatementOf t statement.Publish = ⊤
IsStatementOf t (statement.Report query) = ⊤
IsStatementOf t statement.Shape = ⊤
