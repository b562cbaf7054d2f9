-- Over a table's rows each text says one thing.
use Rattle.std.proofs.Common.{◌≡◌, ◌⊎◌, ℕ, false, true, Option, Some, None, Result, Ok, Err, List, inl, inr, refl, sym, ap, subst, ◌∙◌}
use Rattle.std.specs.Prelude.{MatchResult, Vec}
use Rattle.std.specs.declared.alloc.Global.{Global}
use Rattle.cells.specs.Refusals.{Reads}
use Rattle.cells.specs.Tables.{Rows}
use Rattle.cells.specs.Values.{RowValue, Table}
use Rattle.cells.specs.declared.refused.Refused.{Refused}
use Rattle.cells.specs.declared.refused.Refused.TheVariants.{OutOfMemory}
use Rattle.board.specs.Editions.{Edition}
use Rattle.script.specs.Blocks.{WillReport, WillReportPlan}
use Rattle.script.specs.Output.{IsReport, report}
use Rattle.report.specs.Wants.{refusal_of}
use Rattle.report.specs.declared.want.Want.{Want}
use Rattle.report.specs.declared.want.Want.TheVariants as want
use Rattle.script.specs.Says.{Answer, GivesPlan, GivesValues, IsRefused, IsShown, IsWant, MeansPlan, Says, Values, answer, answer_of, no_plan, no_query}
use Rattle.script.specs.Spelling.{refusal}
use Rattle.script.specs.declared.block.Block.{Block}
use Rattle.script.specs.declared.block.Block.TheVariants.{Refusal}
use Rattle.script.specs.declared.fault.Fault.TheVariants.{Line}
use Rattle.script.specs.declared.manner.Manner.{Manner}
use Rattle.script.specs.Stops.{AsksWrongly, Tells}
use Rattle.query.specs.Checks.{fault_of}
use Rattle.query.specs.Plans.{PlanTree, checked, checked_by, plan_of}
use Rattle.query.specs.Queries.{FirstFault, IsAnswered, IsQuery, a_fault, a_query}
use Rattle.query.specs.Values.{QueryTree}

-- ---- the laws of reading

-- each text is a query, or has a first fault
abbrev pub EachAnswered : Type 0
EachAnswered = (text : List ℕ) → IsAnswered text

-- it is one query at most, it has one first fault at most, and never both
pub record OneAnswer : Type 0 where
  pub one_query : (text : List ℕ) (q p : QueryTree) → IsQuery text q → IsQuery text p → q ≡ p
  pub one_fault : (text : List ℕ) (e f : Refused) → FirstFault text e → FirstFault text f → e ≡ f
  pub no_both : (text : List ℕ) (q : QueryTree) (e : Refused) → IsQuery text q → FirstFault text e → ⊥

-- ---- so a text says one thing

says_some : EachAnswered → (t : Table) (rs : List RowValue) (text : List ℕ) → (r : Result Answer Refused) × Says t rs text r
says_some each t rs text = read (each text) where
  asked : (q : QueryTree) → IsQuery text q → (o : Option Refused) → fault_of t q ≡ o → (r : Result Answer Refused) × Says t rs text r
  asked q is None e = (Ok (answer_of (plan_of t q) rs), answer is e)
  asked q is (Some fault) e = (Err fault, no_plan is e)

  read : IsAnswered text → (r : Result Answer Refused) × Says t rs text r
  read (a_query q is) = asked q is (fault_of t q) refl
  read (a_fault fault is) = (Err fault, no_query is)

-- the faults of both queries are the same
same_fault : OneAnswer → (t : Table) (text : List ℕ) (q p : QueryTree) → IsQuery text q → IsQuery text p → fault_of t q ≡ fault_of t p
same_fault law t text q p h k = ap (fault_of t) (law.one_query text q p h k)

module _ (law : OneAnswer) {t : Table} {rs : List RowValue} {text : List ℕ} where
  pub says_one : {r s : Result Answer Refused} → Says t rs text r → Says t rs text s → r ≡ s
  says_one (no_query {fault = e} h) (no_query {fault = f} k) = ap Err (law.one_fault text e f h k)
  says_one (no_query {fault = e} h) (no_plan {q = q} k f) = absurd (law.no_both text q e k h)
  says_one (no_query {fault = e} h) (answer {q = q} k f) = absurd (law.no_both text q e k h)
  says_one (no_plan {q = q} h f) (no_query {fault = e} k) = absurd (law.no_both text q e h k)
  says_one (no_plan {q = q} {fault = e} h f) (no_plan {q = p} {fault = g} k l) =
      let same : Some e ≡ Some g = sym f ∙ same_fault law t text q p h k ∙ l in ap Err cc
  says_one (no_plan {q = q} {fault = e} h f) (answer {q = p} k l) =
      let bad : Some e ≡ None = sym f ∙ same_fault law t text q p h k ∙ l in absurd cc
  says_one (answer {q = q} h f) (no_query {fault = e} k) = absurd (law.no_both text q e h k)
  says_one (answer {q = q} h f) (no_plan {q = p} {fault = e} k l) =
      let bad : None ≡ Some e = sym f ∙ same_fault law t text q p h k ∙ l in absurd cc
  says_one (answer {q = q} h f) (answer {q = p} k l) = ap (λ o. Ok (answer_of (plan_of t o) rs)) (law.one_query text q p h k)

-- ---- and a report has one block

pub some_report : EachAnswered → (manner : Manner) (number edition : ℕ) (t : Table) (rs : List RowValue) (query : List ℕ) → (bytes : List ℕ) × IsReport manner number edition t rs query bytes
some_report each manner number edition t rs query =
    let (said, says) = says_some each t rs query in
    (report manner number edition said, record { said = said; says = says; is = refl })

pub one_report : OneAnswer → (manner : Manner) (number edition : ℕ) (t : Table) (rs : List RowValue) (query bytes others : List ℕ) →
    IsReport manner number edition t rs query bytes → IsReport manner number edition t rs query others → bytes ≡ others
one_report law manner number edition t rs query bytes others a b = a.is ∙ ap (report manner number edition) (says_one law a.says b.says) ∙ sym b.is

-- ---- what the code answers

-- a text that is no query
pub refused_text : (t : Table) (text : List ℕ) (fault : Refused) → (fault ≡ OutOfMemory) ⊎ FirstFault text fault → IsRefused t text fault
refused_text t text fault (inl wanting) = inl wanting
refused_text t text fault (inr first) = inr (λ rs. no_query first)

-- a query that was checked
pub checked_text : (t : Table) (text : List ℕ) (q : QueryTree) (result : Result PlanTree Refused) → IsQuery text q → Reads (checked t q) result → GivesPlan t text result
checked_text t text q result is reads = go (fault_of t q) refl result reads where
  go : (o : Option Refused) → fault_of t q ≡ o → (r : Result PlanTree Refused) → Reads (checked_by o (plan_of t q)) r → GivesPlan t text r
  go None e (Ok plan) said = λ rs. let same : plan_of t q ≡ plan = cc in rw (← same) (answer is e)
  go None e (Err fault) (inl wanting) = inl wanting
  go None e (Err fault) (inr said) = absurd cc
  go (Some first) e (Ok plan) said = absurd cc
  go (Some first) e (Err fault) (inl wanting) = inl wanting
  go (Some first) e (Err fault) (inr said) = inr (λ rs. let same : first ≡ fault = cc in no_plan is (e ∙ ap Some same))

-- a text that says an answer asks rightly
pub never_wrong : OneAnswer → {t : Table} {rs : List RowValue} {query : List ℕ} {told : Answer} → Says t rs query (Ok told) → AsksWrongly t rs query → ⊥
never_wrong law says wrong = let both = says_one law says wrong.says in absurd cc

-- the block of a refused report
pub answers_refused : {H : Type 0} {manner : Manner} (last : Edition) (number : ℕ) (query : List ℕ) (fault : Refused) (bytes : Vec ℕ Global) →
    IsRefused last.schema query fault → (Line fault ≡ Line OutOfMemory → false ≡ true) → bytes.items ≡ refusal manner.form number (Line fault) → WillReport {H = H} manner last number query (Refusal bytes)
answers_refused last number query fault bytes (inl wanting) memory is = absurd (let bad : false ≡ true = memory (ap Line wanting) in cc)
answers_refused {manner = manner} last number query fault bytes (inr says) memory is = record {
  is = λ rs left same. record { text = refusal manner.form number (Line fault); is = record { said = Err fault; says = says rs; is = refl }; will = is; tells = record { fault = fault; says = says rs } };
}

-- the block of a report that is answered
pub answers_plan : {H : Type 0} {manner : Manner} → OneAnswer → (last : Edition) (number : ℕ) (query : List ℕ) (plan : PlanTree) (block : Block H) →
    MeansPlan last.schema query plan → WillReportPlan manner last number plan block → WillReport manner last number query block
answers_plan {manner = manner} law last number query plan block asks answers = record {
  is = λ rs left same. record {
    text = report manner number last.number (Ok (answer_of plan rs));
    is = record { said = Ok (answer_of plan rs); says = asks rs; is = refl };
    will = answers.is rs left same;
    tells = subst (λ b. Tells b (AsksWrongly last.schema rs query)) (sym answers.accepted) (never_wrong law (asks rs));
  };
}

-- ---- what is answered as values

-- what a report wanted is a want
pub is_want : (wanted : Want) → IsWant (refusal_of wanted)
is_want want.Memory = inl refl
is_want want.Worker = inr refl

-- a plan that the text means, over an edition
pub gives_values : (manner : Manner) (t : Table) (edition : Rows) (text : List ℕ) (plan : PlanTree) → MeansPlan t text plan → (r : Result Values Refused) →
    MatchResult r (IsShown manner edition plan) IsWant → GivesValues manner t edition text r
gives_values manner t edition text plan means (Ok values) shown = record { plan = plan; means = means; shown = shown }
gives_values manner t edition text plan means (Err e) wanting = inl wanting
