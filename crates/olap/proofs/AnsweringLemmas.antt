-- Whether a table answers a query, from what reads and checks it.
use Rattle.std.proofs.Common.{◌≡◌, ℕ, Bool, true, false, List, Option, Some, None, Result, Ok, Err, inl, inr, refl}
use Rattle.std.specs.Prelude.{◌⊎◌, IfOk, MatchResult}
use Rattle.cells.specs.Refusals.{Reads}
use Rattle.cells.specs.Values.{Table}
use Rattle.cells.specs.declared.refused.Refused.{Refused}
use Rattle.cells.specs.declared.refused.Refused.TheVariants.{OutOfMemory}
use Rattle.query.specs.Checks.{fault_of}
use Rattle.query.specs.Plans.{PlanTree, checked, checked_by, plan_of}
use Rattle.query.specs.Queries.{FirstFault, IsQuery}
use Rattle.query.specs.Values.{QueryTree}
use Rattle.olap.specs.Answering.{Answers, SaysNo, answered, no_plan, no_query}

-- no query
pub unread : {E : Type 0} (t : Table) (text : List ℕ) (fault : Refused) (said : Result Bool E) → (fault ≡ OutOfMemory) ⊎ FirstFault text fault →
    IfOk said (SaysNo fault) → IfOk said (Answers (Some t) text)
unread t text fault (Ok b) (inl wanting) never = absurd (never.other wanting)
unread t text fault (Ok b) (inr first) never = rw never.is_no (no_query first)
unread t text fault (Err e) why never = tt

-- a query that has a fault
pub unchecked : {E : Type 0} (t : Table) (text : List ℕ) (q : QueryTree) (fault : Refused) (said : Result Bool E) → IsQuery text q → (fault ≡ OutOfMemory) ⊎ (checked t q ≡ Err fault) →
    IfOk said (SaysNo fault) → IfOk said (Answers (Some t) text)
unchecked t text q fault (Ok b) is (inl wanting) never = absurd (never.other wanting)
unchecked t text q fault (Ok b) is (inr first) never = rw never.is_no (go (fault_of t q) refl first) where
  go : (o : Option Refused) → fault_of t q ≡ o → checked_by o (plan_of t q) ≡ Err fault → Answers (Some t) text false
  go None e said = absurd cc
  go (Some first) e said = no_plan is e
unchecked t text q fault (Err e) is why never = tt

-- a query that has a plan
pub planned : (t : Table) (text : List ℕ) (q : QueryTree) (plan : PlanTree) → IsQuery text q → checked t q ≡ Ok plan → Answers (Some t) text true
planned t text q plan is said = go (fault_of t q) refl said where
  go : (o : Option Refused) → fault_of t q ≡ o → checked_by o (plan_of t q) ≡ Ok plan → Answers (Some t) text true
  go None e said = answered is e
  go (Some first) e said = absurd cc

pub found_or_not : {E : Type 0} (t : Table) (text : List ℕ) (q : QueryTree) (checks : Result PlanTree Refused) (said : Result Bool E) → IsQuery text q → Reads (checked t q) checks →
    MatchResult checks (λ plan. IfOk said (λ b. b ≡ true)) (λ fault. IfOk said (SaysNo fault)) → IfOk said (Answers (Some t) text)
found_or_not t text q (Ok plan) (Ok b) is reads same = rw same (planned t text q plan is reads)
found_or_not t text q (Ok plan) (Err e) is reads same = tt
found_or_not t text q (Err fault) said is reads never = unchecked t text q fault said is reads never
