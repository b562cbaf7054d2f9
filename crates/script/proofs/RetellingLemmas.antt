-- Blocks by what shards tell.
use Rattle.std.proofs.Common.{◌≡◌, ◌∙◌, ℕ, ◌+◌, ◌≤◌, Bor, IfOk, IfSome, Bool, true, false, cond, Option, Some, None, Result, Ok, Err, List, [], ◌∷◌, ◌++◌, inl, inr, length, map, take, drop, refl, sym, ap, subst, append_assoc, arith}
use Rattle.std.proofs.lemmas.List.{append-nil, take-append-drop}
use Rattle.std.proofs.lemmas.List.Elements.{filter_map-append}
use Rattle.std.specs.List.{AllZip}
use Rattle.std.specs.Prelude.{Vec}
use Rattle.std.specs.declared.alloc.Global.{Global}
use Rattle.cells.specs.Updates.{Update}
use Rattle.cells.specs.Values.{RowValue, Table}
use Rattle.cells.specs.declared.cell.Cell.{Cell}
use Rattle.cells.specs.declared.refused.Refused.{Refused}
use Rattle.cells.specs.declared.refused.Refused.TheVariants.{OutOfMemory, TooManyRows}
use Rattle.forms.specs.declared.form.Form.{Form}
use Rattle.forms.specs.declared.form.Form.TheVariants.{Classic, Csv, Json, Table as TableForm}
use Rattle.groups.specs.Accumulators.{aggregation_of, aggregations_of}
use Rattle.groups.specs.Groups.{kept}
use Rattle.groups.specs.Told.{GroupValue, Tells, TellsSet}
use Rattle.groups.specs.declared.aggregation.Aggregation.{Aggregation}
use Rattle.loader.specs.Shards.{taken}
use Rattle.query.specs.Marking.{mark_of, marked, with_marks}
use Rattle.query.specs.Plans.{PlanTree}
use Rattle.query.specs.declared.item.Item.{Item}
use Rattle.query.specs.declared.item.Item.TheVariants as item
use Rattle.report.specs.Reports.{answer_to, plan_in}
use Rattle.report.specs.declared.question.Question.{Question}
use Rattle.script.specs.Deeds.{Declares, Deed, Loads, Nothing, Publishes, Reports, Shapes, Updates}
use Rattle.script.specs.Givens.{Givens}
use Rattle.script.specs.Limits.{script_limit}
use Rattle.script.specs.Listings.{rows_loaded}
use Rattle.script.specs.Output.{AreBlocks, IsAnswer, IsReport, Lines, declared, deed_behind, edition, is_publish, line_first, loaded, no_line, published, report, updates}
use Rattle.script.specs.Manners.{question_in}
use Rattle.script.specs.Retelling.{GivesBlock, TellsKept}
use Rattle.script.specs.Says.{Answer, IsRefused, MeansPlan, Says, answer_of, spelt}
use Rattle.script.specs.Spelling.{refusal}
use Rattle.script.specs.Told.{AreTold, FitAll, Fits, FitsLoaded, IsTold, IsToldReport, told_load}
use Rattle.script.specs.Walks.{GoesOver, IsLoad, IsSilent, StandsBehind}
use Rattle.script.specs.declared.fault.Fault.{Fault}
use Rattle.script.specs.declared.fault.Fault.TheVariants.{Line}
use Rattle.script.specs.declared.manner.Manner.{Manner}
use Rattle.script.specs.declared.told.Told.{Told}
use Rattle.script.specs.declared.told.Told.TheVariants as told
use Rattle.script.specs.declared.walk.Doing.{Doing}
use Rattle.script.specs.declared.walk.Doing.TheVariants as doing
use Rattle.script.specs.declared.walk.Walk.{Walk}
use Rattle.script.proofs.SaysLemmas.{OneAnswer, says_one}
use Rattle.script.proofs.WalksLemmas.{does_behind, given_so, stands_more}

-- ---- what a plan keeps is what its marked plan keeps

no_aggregate : (i : Item ℕ) → aggregation_of (mark_of i) ≡ None
no_aggregate (item.Column c) = refl
no_aggregate (item.Grouping cs) = refl
no_aggregate item.CountRows = refl
no_aggregate (item.Count c) = refl
no_aggregate (item.CountDistinct c) = refl
no_aggregate (item.Sum c) = refl
no_aggregate (item.Min c) = refl
no_aggregate (item.Max c) = refl

-- marks ask for no aggregate
no_aggregates : (items : List (Item ℕ)) → aggregations_of (map mark_of items) ≡ []
no_aggregates [] = refl
no_aggregates (i ∷ items) = rw (no_aggregate i) (no_aggregates items)

same_aggregates : (many : ℕ) (items : List (Item ℕ)) → aggregations_of (with_marks many items) ≡ aggregations_of items
same_aggregates many items =
    filter_map-append aggregation_of (take many items) (map mark_of (take many items) ++ drop many items)
    ∙ ap (λ rest. aggregations_of (take many items) ++ rest) (
    filter_map-append aggregation_of (map mark_of (take many items)) (drop many items)
    ∙ ap (λ none. none ++ aggregations_of (drop many items)) (no_aggregates (take many items))
    )
    ∙ sym (filter_map-append aggregation_of (take many items) (drop many items))
    ∙ ap aggregations_of (take-append-drop many items)

marked_tells : (plan : PlanTree) (rows : List RowValue) (sets : List (List GroupValue)) → Tells plan rows sets → Tells (marked plan) rows sets
marked_tells plan rows sets tells = record {
  each = subst (λ (aggregations : List Aggregation). AllZip (λ set groups. TellsSet aggregations set rows groups) plan.sets sets) (sym (same_aggregates (length plan.headings) plan.items)) tells.each;
}

-- whatever form is asked for
pub asked_tells : (form : Form) (plan : PlanTree) (rs : List RowValue) (sets : List (List GroupValue)) → Tells plan (kept plan.condition rs) sets →
    Tells (plan_in form plan) (kept (plan_in form plan).condition rs) sets
asked_tells Classic plan rs sets tells = tells
asked_tells Csv plan rs sets tells = tells
asked_tells Json plan rs sets tells = tells
asked_tells TableForm plan rs sets tells = marked_tells plan (kept plan.condition rs) sets tells

-- ---- reports

-- a text asks for one plan
pub one_plan : OneAnswer → (t : Table) (rs : List RowValue) (query : List ℕ) (plan other : PlanTree) → MeansPlan t query plan → MeansPlan t query other → plan ≡ other
one_plan law t rs query plan other means asks =
    let both = says_one law (means rs) (asks rs) in
    let answers : answer_of plan rs ≡ answer_of other rs = cc in
    ap (λ (a : Answer). a.plan) answers

-- what is told of a report is of the plan that its text asks for
same_plan : OneAnswer → (t : Table) (rs : List RowValue) (query : List ℕ) (plan : PlanTree) (it : Told) → MeansPlan t query plan → IsToldReport t rs query it → TellsKept plan rs it
same_plan law t rs query plan told.Nothing means is = let both = says_one law is.says (means rs) in absurd cc
same_plan law t rs query plan (told.Refused fault) means is = absurd is
same_plan law t rs query plan (told.Kept sets) means is = subst (λ p. Tells p (kept p.condition rs) sets.items) (one_plan law t rs query is.plan plan is.means means) is.tells

-- the text of the plan's report by what is kept
pub told_answer : (manner : Manner) (plan : PlanTree) (rs : List RowValue) (it : Told) (sets asked : Vec (List GroupValue) Global) (question : Question) (o : Option (Vec ℕ Global)) (answer : Vec ℕ Global) →
    TellsKept plan rs it → it ≡ told.Kept sets → asked ≡ sets → question ≡ question_in manner plan →
    ((rows : List RowValue) → Tells question.plan (kept question.plan.condition rows) asked.items → IfSome o (λ text. text.items ≡ answer_to question rows)) → o ≡ Some answer →
    answer.items ≡ spelt manner (answer_of plan rs)
told_answer manner plan rs it sets asked question o answer tells is same_sets same gives found =
    let kept_so : Tells plan (kept plan.condition rs) sets.items = subst (TellsKept plan rs) is tells in
    let each = subst (λ (q : Question). (rows : List RowValue) → Tells q.plan (kept q.plan.condition rows) asked.items → IfSome o (λ text. text.items ≡ answer_to q rows)) same gives in
    let all = subst (λ (s : Vec (List GroupValue) Global). Tells (plan_in manner.form plan) (kept (plan_in manner.form plan).condition rs) s.items) (sym same_sets) (asked_tells manner.form plan rs sets.items kept_so) in
    subst (λ p. IfSome p (λ text. text.items ≡ spelt manner (answer_of plan rs))) found (each rs all)

pub same_table : (declared : Option Table) (schema t : Table) → declared ≡ Some schema → declared ≡ Some t → schema ≡ t
same_table declared schema t a b = let both = sym a ∙ b in cc

-- a report that is answered
pub report_told : {E : Type 0} → OneAnswer → (manner : Manner) (number edition : ℕ) (declared : Option Table) (schema t : Table) (rs : List RowValue) (query : List ℕ) (plan : PlanTree) (it : Told) (result : Result (Option (Vec ℕ Global)) E) →
    declared ≡ Some schema → declared ≡ Some t → MeansPlan schema query plan → IsToldReport t rs query it →
    ((rows : List RowValue) → TellsKept plan rows it → IfOk result (λ o. IfSome o (λ block. block.items ≡ report manner number edition (Ok (answer_of plan rows))))) →
    IfOk result (λ o. IfSome o (λ block. IsReport manner number edition t rs query block.items))
report_told law manner number edition declared schema t rs query plan it result has named means is gives =
    let asks = subst (λ (s : Table). MeansPlan s query plan) (same_table declared schema t has named) means in
    given_so result _ _ (λ block text. record { said = Ok (answer_of plan rs); says = asks rs; is = text }) (gives rs (same_plan law t rs query plan it asks is))

-- one whose text is refused
pub report_refused : (manner : Manner) (number edition : ℕ) (declared : Option Table) (schema t : Table) (rs : List RowValue) (query : List ℕ) (fault : Refused) (bytes : List ℕ) →
    declared ≡ Some schema → declared ≡ Some t → IsRefused schema query fault → (Line fault ≡ Line OutOfMemory → false ≡ true) → bytes ≡ refusal manner.form number (Line fault) →
    IsReport manner number edition t rs query bytes
report_refused manner number edition declared schema t rs query fault bytes has named (inl wanting) memory is = absurd (let bad : false ≡ true = memory (ap Line wanting) in cc)
report_refused manner number edition declared schema t rs query fault bytes has named (inr says) memory is = record {
  said = Err fault;
  says = subst (λ (s : Table). Says s rs query (Err fault)) (same_table declared schema t has named) (says rs);
  is = is;
}

-- all rows are taken
pub all_taken : (all : Cell → Bool) → ((key : Cell) → all key ≡ true) → (rs : List RowValue) → taken all rs ≡ rs
all_taken all every [] = refl
all_taken all every (r ∷ rs) = ap (λ b. cond b (r ∷ taken all rs) (taken all rs)) (every r.key) ∙ ap (λ l. r ∷ l) (all_taken all every rs)

-- ---- the block of a line, by what it does

silent : (hash : Cell → ℕ) (givens : Givens) (before : Lines) (does : Result Deed Fault) (bytes : List ℕ) → IsSilent does → Fits givens (updates givens before) does → bytes ≡ [] → IsAnswer hash givens before does bytes
silent hash givens before (Ok Nothing) bytes quiet fits none = none
silent hash givens before (Ok (Declares t)) bytes quiet fits none = none
silent hash givens before (Ok Publishes) bytes quiet fits none = none
silent hash givens before (Ok (Updates more)) bytes quiet fits none = none ∙ sym (ap (λ b. cond b (refusal givens.manner.form (length before + 1) (Line TooManyRows)) []) fits)
silent hash givens before (Ok (Loads t listing)) bytes quiet fits none = absurd quiet
silent hash givens before (Ok (Reports t query)) bytes quiet fits none = absurd quiet
silent hash givens before (Ok Shapes) bytes quiet fits none = absurd quiet
silent hash givens before (Err fault) bytes quiet fits none = absurd quiet

pub quiet_gives : (manner : Manner) (walk : Walk) (it : Told) (bytes : List ℕ) → bytes ≡ [] → GivesBlock manner walk doing.Quiet it bytes
quiet_gives manner walk it bytes none = record { is = λ hash givens all before does same every counts editions quiet fits tells. silent hash givens before does bytes quiet fits none }

pub put_gives : (manner : Manner) (walk : Walk) (it : Told) (bytes : List ℕ) → bytes ≡ [] → GivesBlock manner walk doing.Puts it bytes
put_gives manner walk it bytes none = record {
  is = λ hash givens all before does same every counts editions puts fits tells.
      let room = subst (Fits givens (updates givens before)) puts.is fits in
      subst (λ d. IsAnswer hash givens before d bytes) (sym puts.is)
      (none ∙ sym (ap (λ b. cond b (refusal givens.manner.form (length before + 1) (Line TooManyRows)) []) room));
}

loads : (hash : Cell → ℕ) (givens : Givens) (all : Cell → Bool) (before : Lines) (does : Result Deed Fault) (number : ℕ) (it : Told) (bytes : List ℕ) → number ≡ length before + 1 → IsLoad does →
    Fits givens (updates givens before) does → IsTold givens all before does it →
    ((limit : ℕ) (us : List Update) (held : Result (List RowValue) Fault) → FitsLoaded limit us held → it ≡ told_load held → bytes ≡ loaded givens.manner.form number limit us held) →
    IsAnswer hash givens before does bytes
loads hash givens all before (Ok (Loads t listing)) number it bytes counts load fits tells gives =
    subst (λ n. bytes ≡ loaded givens.manner.form n givens.limit (updates givens before) (rows_loaded t givens.parts listing)) counts (gives givens.limit (updates givens before) (rows_loaded t givens.parts listing) fits tells)
loads hash givens all before (Ok Nothing) number it bytes counts load fits tells gives = absurd load
loads hash givens all before (Ok (Declares t)) number it bytes counts load fits tells gives = absurd load
loads hash givens all before (Ok (Updates more)) number it bytes counts load fits tells gives = absurd load
loads hash givens all before (Ok Publishes) number it bytes counts load fits tells gives = absurd load
loads hash givens all before (Ok (Reports t query)) number it bytes counts load fits tells gives = absurd load
loads hash givens all before (Ok Shapes) number it bytes counts load fits tells gives = absurd load
loads hash givens all before (Err fault) number it bytes counts load fits tells gives = absurd load

pub load_gives : {E : Type 0} (manner : Manner) (walk : Walk) (it : Told) (result : Result (Option (Vec ℕ Global)) E) →
    ((limit : ℕ) (us : List Update) (held : Result (List RowValue) Fault) → FitsLoaded limit us held → it ≡ told_load held → IfOk result (λ o. IfSome o (λ block. block.items ≡ loaded manner.form walk.number limit us held))) →
    IfOk result (λ o. IfSome o (λ block. GivesBlock manner walk doing.Loads it block.items))
load_gives manner walk it (Ok (Some block)) gives = record {
  is = λ hash givens all before does same every counts editions load fits tells.
      loads hash givens all before does walk.number it block.items counts load fits tells
      (λ limit us held room is. gives limit us held room is ∙ ap (λ (m : Manner). loaded m.form walk.number limit us held) (sym same));
}
load_gives manner walk it (Ok None) gives = tt
load_gives manner walk it (Err e) gives = tt

pub report_gives : {E : Type 0} (manner : Manner) (walk : Walk) (query : Bor (List ℕ)) (it : Told) (result : Result (Option (Vec ℕ Global)) E) →
    ((t : Table) (rs : List RowValue) → walk.schema ≡ Some t → IsToldReport t rs query.now it → IfOk result (λ o. IfSome o (λ block. IsReport manner walk.number walk.edition t rs query.now block.items))) →
    IfOk result (λ o. IfSome o (λ block. GivesBlock manner walk (doing.Reports query) it block.items))
report_gives manner walk query it (Ok (Some block)) gives = record {
  is = λ hash givens all before does same every counts editions reports fits tells.
      let t = reports.table in
      let rs = published givens before in
      let told_so = subst (λ d. IsTold givens all before d it) reports.is tells in
      let is = gives t rs reports.has (subst (λ rows. IsToldReport t rows query.now it) (all_taken all every rs) told_so) in
      let edition_is = editions (ap is_publish reports.is) in
      subst (λ d. IsAnswer hash givens before d block.items) (sym reports.is)
      (subst (λ (m : Manner). IsReport m (length before + 1) (edition givens before) t rs query.now block.items) (sym same)
      (subst (λ n. IsReport manner n (edition givens before) t rs query.now block.items) counts
      (subst (λ e. IsReport manner walk.number e t rs query.now block.items) edition_is is)));
}
report_gives manner walk query it (Ok None) gives = tt
report_gives manner walk query it (Err e) gives = tt

pub refused_gives : {E : Type 0} (manner : Manner) (walk : Walk) (fault : Fault) (it : Told) (result : Result (Option (Vec ℕ Global)) E) →
    IfOk result (λ o. IfSome o (λ block. block.items ≡ refusal manner.form walk.number fault)) →
    IfOk result (λ o. IfSome o (λ block. GivesBlock manner walk (doing.Refused fault) it block.items))
refused_gives manner walk fault it result = given_so result _ _ (λ block text. record {
  is = λ hash givens all before does same every counts editions refuses fits tells.
      subst (λ d. IsAnswer hash givens before d block.items) (sym refuses)
      (text ∙ ap (λ (m : Manner). refusal m.form walk.number fault) (sym same) ∙ ap (λ n. refusal givens.manner.form n fault) counts);
})

-- ---- over all lines

-- what is left is told of, and behind the text any blocks of the rest are the script's
pub record Comes (hash : Cell → ℕ) (givens : Givens) (all : Cell → Bool) (before rest script : Lines) (left : List Told) (text : List ℕ) : Type 0 where
  pub fit : FitAll givens before rest
  pub are : AreTold givens all before rest left
  pub blocks : (bytes : List ℕ) → AreBlocks hash givens before rest bytes → AreBlocks hash givens [] script (text ++ bytes)

-- the lines before have this text
pub record Retold (manner : Manner) (before rest script : Lines) (tolds left : List Told) (text : List ℕ) (walk : Walk) : Type 0 where
  pub stands : StandsBehind before walk
  pub short : length before + length rest ≤ script_limit + 1
  pub comes : (hash : Cell → ℕ) (givens : Givens) (all : Cell → Bool) → givens.manner ≡ manner → ((key : Cell) → all key ≡ true) → FitAll givens [] script → AreTold givens all [] script tolds →
      Comes hash givens all before rest script left text

pub retold_start : (manner : Manner) (script : Lines) (tolds left : List Told) (text : List ℕ) (walk : Walk) → StandsBehind [] walk → left ≡ tolds → text ≡ [] → length script ≤ script_limit + 1 →
    Retold manner [] script script tolds left text walk
retold_start manner script tolds left text walk stands same none short = record {
  stands = stands;
  short = omega (arith, short);
  comes = λ hash givens all is every fit are. record {
    fit = fit;
    are = subst (AreTold givens all [] script) (sym same) are;
    blocks = λ bytes rest. subst (λ t. AreBlocks hash givens [] script (t ++ bytes)) (sym none) rest;
  };
}

module _ (manner : Manner) (before now_left script : Lines) (tolds left : List Told) (text : List ℕ) (walk : Walk) (so_far : Retold manner before now_left script tolds left text walk) where
  -- one line more
  pub retold_more : (line : List ℕ) (rest : Lines) (it : Told) (more : List Told) (after : Walk) (does : Doing) (block new : List ℕ) → now_left ≡ line ∷ rest → left ≡ it ∷ more → GoesOver line walk after does →
      GivesBlock manner after does it block → new ≡ text ++ block → Retold manner (line ∷ before) rest script tolds more new after
  retold_more line rest it more after does block new is takes goes gives joined =
      let behind = stands_more before line walk after does so_far.stands goes in record {
        stands = behind;
        short = omega (arith, so_far.short, ap length is);
        comes = λ hash givens all same every fit are.
            let come = so_far.comes hash givens all same every fit are in
            let fits = subst (FitAll givens before) is come.fit in
            let tells = subst (AreTold givens all before (line ∷ rest)) takes (subst (λ ls. AreTold givens all before ls left) is come.are) in
            let deed_is = deed_behind givens before line in
            let edition_is : is_publish deed_is ≡ false → after.edition ≡ edition givens before = λ quiet. behind.same_edition givens ∙ ap (λ b. cond b (edition givens before + 1) (edition givens before)) quiet in
            let block_is = gives.is hash givens all before deed_is same every (behind.same_number ∙ omega arith) edition_is (does_behind givens before line walk after does so_far.stands goes) fits.0 tells.0 in
            record {
              fit = fits.1;
              are = tells.1;
              blocks = λ bytes later.
                  subst (AreBlocks hash givens [] script) (sym (append_assoc text block bytes) ∙ ap (λ t. t ++ bytes) (sym joined))
                  (come.blocks (block ++ bytes) (subst (λ ls. AreBlocks hash givens before ls (block ++ bytes)) (sym is) (line_first block bytes block_is later)));
            };
      }

  -- no line is left
  pub retold_all : now_left ≡ [] → (hash : Cell → ℕ) (givens : Givens) (all : Cell → Bool) → givens.manner ≡ manner → ((key : Cell) → all key ≡ true) → FitAll givens [] script → AreTold givens all [] script tolds →
      AreBlocks hash givens [] script text
  retold_all is hash givens all same every fit are =
      let come = so_far.comes hash givens all same every fit are in
      subst (AreBlocks hash givens [] script) (append-nil text) (come.blocks [] (subst (λ ls. AreBlocks hash givens before ls []) (sym is) no_line))
