-- Whether a table answers a query.
use Rattle.std.specs.Prelude.{◌≡◌, ℕ, Bool, true, false, List, Option, Some, None}
use Rattle.cells.specs.Values.{Table}
use Rattle.cells.specs.declared.refused.Refused.{Refused}
use Rattle.query.specs.Checks.{fault_of}
use Rattle.query.specs.Queries.{FirstFault, IsQuery}
use Rattle.cells.specs.declared.refused.Refused.TheVariants.{OutOfMemory}
use Rattle.query.specs.Values.{QueryTree}

-- the table answers the query of this text, or there is no table, the text is no query, or the query has a fault for the table
pub data Answers : Option Table → List ℕ → Bool → Type 0 where
  no_table : {text : List ℕ} → Answers None text false
  no_query : {t : Table} {text : List ℕ} {fault : Refused} → FirstFault text fault → Answers (Some t) text false
  no_plan : {t : Table} {text : List ℕ} {q : QueryTree} {fault : Refused} → IsQuery text q → fault_of t q ≡ Some fault → Answers (Some t) text false
  answered : {t : Table} {text : List ℕ} {q : QueryTree} → IsQuery text q → fault_of t q ≡ None → Answers (Some t) text true

-- the answer no comes of a fault, and none of want of memory
pub record SaysNo (fault : Refused) (said : Bool) : Type 0 where
  pub is_no : said ≡ false
  pub other : fault ≡ OutOfMemory → ⊥
