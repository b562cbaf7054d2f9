-- What a statement that was read does, and which fit any table.
use Rattle.std.proofs.Common.{◌≡◌, ◌∙◌, ℕ, List, Option, Some, None, Result, Ok, Err, ap, subst}
use Rattle.std.specs.Prelude.{IfOk}
use Rattle.cells.specs.Values.{Table}
use Rattle.cells.specs.declared.cell.Cell.{Cell}
use Rattle.script.specs.Deeds.{Deed, deed, deletes}
use Rattle.script.specs.declared.fault.Fault.{Fault}
use Rattle.script.specs.Statements.{Asks, IsStatementOf, deed_of_statement}
use Rattle.script.specs.declared.statement.Statement.{Statement}
use Rattle.script.specs.declared.statement.Statement.TheVariants as statement

-- what a line does, by the statement that was read of it under the keeper's table
pub deed_read : {t kept : Table} {s said : Statement} (line : List ℕ) → t ≡ kept → deed (Some t) line ≡ Ok (deed_of_statement t s) → s ≡ said → deed (Some kept) line ≡ Ok (deed_of_statement kept said)
deed_read {t} {kept} {s} {said} line same exact is = subst (λ u. deed (Some u) line ≡ Ok (deed_of_statement u said)) same (exact ∙ ap (λ x. Ok (deed_of_statement t x)) is)

-- a statement that puts a row does what no other does
other_fits : (t : Table) (said : Result Deed Fault) (s : Statement) → ((row : _) → said ≡ Ok (deed_of_statement t (statement.Put row)) → ⊥) →
    said ≡ Ok (deed_of_statement t s) → IsStatementOf t s
other_fits t said statement.Nothing other is = tt
other_fits t said (statement.Load listing) other is = tt
other_fits t said (statement.Put row) other is = absurd (other row is)
other_fits t said (statement.Delete key) other is = tt
other_fits t said statement.Publish other is = tt
other_fits t said (statement.Report query) other is = tt
other_fits t said statement.Shape other is = tt

any_fits : (t : Table) (said : Result Deed Fault) (r : Result Statement Fault) → ((row : _) → said ≡ Ok (deed_of_statement t (statement.Put row)) → ⊥) →
    Asks t said r → IfOk r (IsStatementOf t)
any_fits t said (Ok s) other reads = other_fits t said s other reads
any_fits t said (Err e) other reads = tt

pub deletes_fit : (t : Table) (key : Option Cell) (r : Result Statement Fault) → Asks t (deletes key) r → IfOk r (IsStatementOf t)
deletes_fit t None r reads = any_fits t (deletes None) r (λ row is. cc) reads
deletes_fit t (Some key) r reads = any_fits t (deletes (Some key)) r (λ row is. cc) reads
