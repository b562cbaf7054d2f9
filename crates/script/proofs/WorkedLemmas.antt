-- The blocks of a worked script, line by line.
use Rattle.std.proofs.Common.{◌≡◌, ℕ, List, [], ◌∷◌, None, Ok, subst}
use Rattle.std.proofs.lemmas.List.{append-nil}
use Rattle.cells.specs.Values.{RowValue, Table}
use Rattle.cells.specs.declared.cell.Cell.{Cell}
use Rattle.script.specs.declared.manner.Manner.{Manner}
use Rattle.script.specs.Givens.{Givens}
use Rattle.script.specs.Output.{AreBlocks, IsBlock, IsReport, line_first, no_line, report}
use Rattle.script.specs.Says.{answer, answer_of}
use Rattle.query.specs.Checks.{fault_of}
use Rattle.query.specs.Plans.{plan_of}
use Rattle.query.specs.Queries.{IsQuery}
use Rattle.query.specs.Values.{QueryTree}

-- a line that writes nothing
pub quiet : (hash : Cell → ℕ) (givens : Givens) (before later : List (List ℕ)) (line rest : List ℕ) → IsBlock hash givens before line [] →
    AreBlocks hash givens (line ∷ before) later rest → AreBlocks hash givens before (line ∷ later) rest
quiet hash givens before later line rest is are = line_first [] rest is are

-- the last line
pub last : (hash : Cell → ℕ) (givens : Givens) (before : List (List ℕ)) (line bytes : List ℕ) → IsBlock hash givens before line bytes → AreBlocks hash givens before (line ∷ []) bytes
last hash givens before line bytes is = subst (AreBlocks hash givens before (line ∷ [])) (append-nil bytes) (line_first bytes [] is no_line)

-- an accepted report
pub reported : {manner : Manner} (number edition : ℕ) (t : Table) (rs : List RowValue) (query : List ℕ) (q : QueryTree) (bytes : List ℕ) → IsQuery query q → fault_of t q ≡ None →
    bytes ≡ report manner number edition (Ok (answer_of (plan_of t q) rs)) → IsReport manner number edition t rs query bytes
reported number edition t rs query q bytes is fits text = record { said = Ok (answer_of (plan_of t q) rs); says = answer is fits; is = text }
