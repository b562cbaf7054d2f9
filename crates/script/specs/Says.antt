-- What the text of a report says over the rows of a table: its answer, or its first fault.
use Rattle.std.specs.Prelude.{◌≡◌, ◌⊎◌, ℕ, List, Some, None, Result, Ok, Err, MatchResult}
use Rattle.cells.specs.Tables.{Rows, table}
use Rattle.cells.specs.Updates.{AreLeft}
use Rattle.cells.specs.Values.{RowValue, Table}
use Rattle.cells.specs.declared.refused.Refused.{Refused}
use Rattle.cells.specs.declared.refused.Refused.TheVariants.{NoWorker, OutOfMemory}
use Rattle.cells.specs.declared.total.Total.{Total}
use Rattle.groups.specs.Groups.{report_rows}
use Rattle.query.specs.Checks.{fault_of}
use Rattle.query.specs.Plans.{PlanTree, plan_of}
use Rattle.query.specs.Queries.{FirstFault, IsQuery}
use Rattle.query.specs.Values.{QueryTree}
use Rattle.report.specs.Arranging.{arranged}
use Rattle.report.specs.Reports.{answer_to}
use Rattle.script.specs.Manners.{question_in}
use Rattle.script.specs.declared.manner.Manner.{Manner}

-- what a report answers: a plan, over these rows
pub record Answer : Type 0 where
  pub plan : PlanTree
  pub rows : List RowValue

abbrev pub answer_of : PlanTree → List RowValue → Answer
answer_of plan rs = record { plan = plan; rows = rs }

-- an answer as values: its headings and its rows
pub record Values : Type 0 where
  pub headings : List (List ℕ)
  pub rows : List (List Total)

-- those of an answer whose rows are arranged in this way
abbrev pub shown : Manner → Answer → Values
shown manner answer = record { headings = answer.plan.headings; rows = arranged manner.arrangement answer.plan.headings (report_rows answer.plan answer.rows) }

-- the text of an answer that is told in this way
abbrev pub spelt : Manner → Answer → List ℕ
spelt manner answer = answer_to (question_in manner answer.plan) answer.rows

-- over the rows of the table the text says this: the first fault of a text that is no query, the first fault of a query
-- for the table, or the answer of its plan
pub data Says (t : Table) (rs : List RowValue) (text : List ℕ) : Result Answer Refused → Type 0 where
  no_query : {fault : Refused} → FirstFault text fault → Says t rs text (Err fault)
  no_plan : {q : QueryTree} {fault : Refused} → IsQuery text q → fault_of t q ≡ Some fault → Says t rs text (Err fault)
  answer : {q : QueryTree} → IsQuery text q → fault_of t q ≡ None → Says t rs text (Ok (answer_of (plan_of t q) rs))

-- whatever rows the table has, the text says the answer of this plan
abbrev pub MeansPlan : Table → List ℕ → PlanTree → Type 0
MeansPlan t text plan = (rs : List RowValue) → Says t rs text (Ok (answer_of plan rs))

-- whatever rows the table has, the text says this fault; or memory is wanting
abbrev pub IsRefused : Table → List ℕ → Refused → Type 0
IsRefused t text fault = (fault ≡ OutOfMemory) ⊎ ((rs : List RowValue) → Says t rs text (Err fault))

-- the plan that the text asks for, or its first fault
abbrev pub GivesPlan : Table → List ℕ → Result PlanTree Refused → Type 0
GivesPlan t text result = MatchResult result (MeansPlan t text) (IsRefused t text)

-- memory or a worker is wanting
abbrev pub IsWant : Refused → Type 0
IsWant fault = (fault ≡ OutOfMemory) ⊎ (fault ≡ NoWorker)

-- the values are a plan's report over the rows of an edition, in whatever order these are listed, as it is shown in this way
pub record IsShown (manner : Manner) (edition : Rows) (plan : PlanTree) (values : Values) : Type 0 where
  pub is : (rs : List RowValue) → AreLeft rs → edition ≡ table rs → values ≡ shown manner (answer_of plan rs)

-- the values are what the text says over those rows of the table
pub record IsSaid (manner : Manner) (t : Table) (edition : Rows) (text : List ℕ) (values : Values) : Type 0 where
  pub plan : PlanTree
  pub means : MeansPlan t text plan
  pub shown : IsShown manner edition plan values

-- what a text asks of an edition of the table: its answer, or its first fault, or a want
abbrev pub GivesValues : Manner → Table → Rows → List ℕ → Result Values Refused → Type 0
GivesValues manner t edition text result = MatchResult result (IsSaid manner t edition text) (λ e. IsWant e ⊎ IsRefused t text e)
