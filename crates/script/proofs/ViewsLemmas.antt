-- The blocks of viewers, and of some tail.
use Rattle.std.proofs.Common.{◌≡◌, ◌∙◌, ℕ, zero, suc, ◌+◌, ◌<◌, ◌≤◌, Bool, true, false, cond, Option, Some, None, Err, List, [], ◌∷◌, ◌++◌, length, map, get_or, refl, sym, ap, subst, arith, length-append}
use Rattle.std.proofs.lemmas.List.{append-nil, length-map}
use Rattle.std.proofs.lemmas.Option.{slice_get-get_or, slice_get-map, slice_get_within}
use Rattle.std.specs.List.{AllByRecursion, flat_map, slice_get}
use Rattle.std.specs.Prelude.{option_map}
use Rattle.board.specs.Editions.{Editions}
use Rattle.board.specs.Editions as keeper
use Rattle.cells.specs.Tables.{Rows, table}
use Rattle.cells.specs.Updates.{AreLeft, rows}
use Rattle.cells.specs.Values.{RowValue, Table}
use Rattle.cells.specs.declared.refused.Refused.{Refused}
use Rattle.cells.specs.declared.refused.Refused.TheVariants.{NoTable}
use Rattle.query.specs.Checks.{fault_of}
use Rattle.query.specs.Plans.{PlanTree, plan_of}
use Rattle.query.specs.Queries.{IsAnswered, IsQuery, a_fault, a_query}
use Rattle.query.specs.Values.{QueryTree}
use Rattle.report.specs.Reports.{answer_to}
use Rattle.report.specs.Watching.{GoUpTo, IsShot, Sight, at_last, before_last}
use Rattle.report.specs.declared.question.Question.{Question}
use Rattle.script.specs.Givens.{Givens}
use Rattle.script.specs.Output.{Lines, declared, deed_behind, edition, editions, is_publish, updates}
use Rattle.script.specs.Says.{MeansPlan, Says, answer, answer_of, no_plan, no_query, spelt}
use Rattle.script.specs.Spelling.{view_heading, viewers_refused}
use Rattle.script.specs.Tails.{AreViewers, AreViews, IsTailBehind, IsView, Viewing, last_view, no_viewer, turned_away, undeclared, view_first, viewed, viewer_first}
use Rattle.script.specs.Viewers.{IsAskedSo, view_block}
use Rattle.script.specs.declared.manner.Manner.{Manner}
use Rattle.script.proofs.SaysLemmas.{EachAnswered}

-- ---- the editions behind some lines

pub all_more : {X : Type 0} (P : X → Type 0) (xs : List X) (x : X) → AllByRecursion P xs → P x → AllByRecursion P (xs ++ x ∷ [])
all_more P [] x all p = (p, tt)
all_more P (y ∷ xs) x all p = (all.0, all_more P xs x all.1 p)

all_at : {X : Type 0} (P : X → Type 0) (xs : List X) (k : ℕ) (d : X) → AllByRecursion P xs → k < length xs → P (get_or xs k d)
all_at P [] k d all low = absurd (omega arith)
all_at P (x ∷ xs) zero d all low = all.0
all_at P (x ∷ xs) (suc k) d all low = all_at P xs k d all.1 (omega arith)

-- updates left the rows of each
all_left : (givens : Givens) (before : Lines) → AllByRecursion AreLeft (editions givens before)
all_left givens [] = (record { updates = []; is = refl }, tt)
all_left givens (line ∷ before) = either (is_publish (deed_behind givens before line)) (all_left givens before) where
  either : (b : Bool) → AllByRecursion AreLeft (editions givens before) → AllByRecursion AreLeft (cond b (editions givens before ++ rows (updates givens before) ∷ []) (editions givens before))
  either true earlier = all_more AreLeft (editions givens before) (rows (updates givens before)) earlier (record { updates = updates givens before; is = refl })
  either false earlier = earlier

-- there are as many as the number of the last one tells
pub many_editions : (givens : Givens) (before : Lines) → length (editions givens before) ≡ edition givens before + 1
many_editions givens [] = refl
many_editions givens (line ∷ before) = either (is_publish (deed_behind givens before line)) (many_editions givens before) where
  either : (b : Bool) → length (editions givens before) ≡ edition givens before + 1 → length (cond b (editions givens before ++ rows (updates givens before) ∷ []) (editions givens before)) ≡ cond b (edition givens before + 1) (edition givens before) + 1
  either true earlier = omega (arith, length-append (editions givens before) (rows (updates givens before) ∷ []), earlier)
  either false earlier = earlier

-- the list of rows that stands for the rows at a place
record Lists (all : List (List RowValue)) (number : ℕ) (rows : Rows) : Type 0 where
  list : List RowValue
  at : slice_get all number ≡ Some list
  same : rows ≡ table list

lists_at : (all : List (List RowValue)) (number : ℕ) (rows : Rows) → slice_get (map table all) number ≡ Some rows → Lists all number rows
lists_at all number rows e =
    let within : number < length all = omega (arith, slice_get_within (map table all) number rows e, length-map all table) in
    let at : slice_get all number ≡ Some (get_or all number []) = slice_get-get_or all number [] within in
    let both : Some rows ≡ Some (table (get_or all number [])) = sym e ∙ slice_get-map table all number ∙ ap (option_map table) at in
    record { list = get_or all number []; at = at; same = cc }

left_at : (givens : Givens) (before : Lines) (number : ℕ) (list : List RowValue) → slice_get (editions givens before) number ≡ Some list → AreLeft list
left_at givens before number list e =
    let all = editions givens before in
    let within = slice_get_within all number list e in
    let both : Some (get_or all number []) ≡ Some list = sym (slice_get-get_or all number [] within) ∙ e in
    let same : get_or all number [] ≡ list = cc in
    subst AreLeft same (all_at AreLeft all number [] (all_left givens before) within)

-- ---- the blocks of viewers

module _ (manner : Manner) (givens : Givens) (before : Lines) (k : Editions) (query : List ℕ) (question : Question) (asked : IsAskedSo manner (keeper.schema k) query question)
    (history : keeper.history k ≡ map table (editions givens before)) (viewer : ℕ) where
  pub view_of : (shot : Sight) → IsShot (keeper.history k) question shot → IsView manner (keeper.schema k) (editions givens before) query viewer shot.edition (view_block manner.form viewer shot)
  view_of shot is =
      let lists = lists_at (editions givens before) shot.edition is.rows (subst (λ h. slice_get h shot.edition ≡ Some is.rows) history is.at) in
      let text = is.is.is lists.list (left_at givens before shot.edition lists.list lists.at) lists.same ∙ ap (λ (q : Question). answer_to q lists.list) asked.is in
      record {
        rows = lists.list;
        answer = answer_of asked.plan lists.list;
        at = lists.at;
        says = asked.means lists.list;
        is = ap (λ t. view_heading manner.form viewer shot.edition ++ t) text;
      }

  pub views_of : {last least count : ℕ} {shots : List Sight} → GoUpTo (keeper.history k) question last least count shots →
      AreViews manner (keeper.schema k) (editions givens before) query last viewer least count (flat_map (view_block manner.form viewer) shots)
  views_of (at_last {shot = shot} low same is) = rw append-nil (last_view low (subst (λ n. IsView manner (keeper.schema k) (editions givens before) query viewer n (view_block manner.form viewer shot)) same (view_of shot is)))
  views_of (before_last {shot = shot} {more = more} low is up) = view_first (view_block manner.form viewer shot) (flat_map (view_block manner.form viewer) more) low (view_of shot is) (views_of up)

-- ---- some tail

module _ (manner : Manner) (t : Table) (all : List (List RowValue)) (last : ℕ) (viewing : Viewing) (some : (viewer : ℕ) → (bytes : List ℕ) × IsView manner t all viewing.query viewer last bytes) where
  pub some_views : (viewer least count : ℕ) → least ≤ last → (bytes : List ℕ) × AreViews manner t all viewing.query last viewer least count bytes
  some_views viewer least zero low = let (bytes, is) = some viewer in (bytes, last_view low is)
  some_views viewer least (suc count) low =
      let (bytes, is) = some viewer in
      let (rest, are) = some_views viewer last count (omega arith) in
      (bytes ++ rest, view_first bytes rest low is are)

  pub some_viewers : (viewer count : ℕ) → (bytes : List ℕ) × AreViewers manner t all last viewing viewer count bytes
  some_viewers viewer zero = ([], no_viewer)
  some_viewers viewer (suc count) =
      let (bytes, are) = some_views viewer 0 viewing.shots (omega arith) in
      let (rest, more) = some_viewers (viewer + 1) count in
      (bytes ++ rest, viewer_first bytes rest are more)

-- what a plan of the query answers on the last edition
pub some_view : (manner : Manner) (givens : Givens) (before : Lines) (t : Table) (viewing : Viewing) (plan : PlanTree) → MeansPlan t viewing.query plan → (viewer : ℕ) →
    (bytes : List ℕ) × IsView manner t (editions givens before) viewing.query viewer (edition givens before) bytes
some_view manner givens before t viewing plan means viewer =
    let all = editions givens before in
    let list = get_or all (edition givens before) [] in (
      view_heading manner.form viewer (edition givens before) ++ spelt manner (answer_of plan list),
      record {
        rows = list;
        answer = answer_of plan list;
        at = slice_get-get_or all (edition givens before) [] (omega (arith, many_editions givens before));
        says = means list;
        is = refl;
      },
    )

-- what viewers have after these lines, where it is known by the table that was declared and what their query means
module _ (each : EachAnswered) (givens : Givens) (before : Lines) (viewing : Viewing) (P : List ℕ → Type 0) (none : declared givens before ≡ None → P (viewers_refused givens.manner.form NoTable))
    (turned : (t : Table) (fault : Refused) → declared givens before ≡ Some t → Says t [] viewing.query (Err fault) → P (viewers_refused givens.manner.form fault))
    (planned : (t : Table) (plan : PlanTree) → declared givens before ≡ Some t → MeansPlan t viewing.query plan → (bytes : List ℕ) × P bytes) where
  by_fault : (t : Table) → declared givens before ≡ Some t → (q : QueryTree) → IsQuery viewing.query q → (o : Option Refused) → fault_of t q ≡ o → (bytes : List ℕ) × P bytes
  by_fault t is q spelt (Some fault) e = (viewers_refused givens.manner.form fault, turned t fault is (no_plan spelt e))
  by_fault t is q spelt None e = planned t (plan_of t q) is (λ rs. answer spelt e)

  by_text : (t : Table) → declared givens before ≡ Some t → IsAnswered viewing.query → (bytes : List ℕ) × P bytes
  by_text t is (a_query q spelt) = by_fault t is q spelt (fault_of t q) refl
  by_text t is (a_fault fault first) = (viewers_refused givens.manner.form fault, turned t fault is (no_query first))

  by_table : (o : Option Table) → declared givens before ≡ o → (bytes : List ℕ) × P bytes
  by_table None is = (viewers_refused givens.manner.form NoTable, none is)
  by_table (Some t) is = by_text t is (each viewing.query)

  pub some_shown : (bytes : List ℕ) × P bytes
  some_shown = by_table (declared givens before) refl

pub some_tail : EachAnswered → (givens : Givens) (before : Lines) (viewing : Viewing) → (bytes : List ℕ) × IsTailBehind givens viewing before bytes
some_tail each givens before viewing =
    some_shown each givens before viewing (IsTailBehind givens viewing before) (λ is. undeclared is) (λ t fault is says. turned_away is says) (λ t plan is means.
    let (bytes, are) = some_viewers givens.manner t (editions givens before) (edition givens before) viewing (some_view givens.manner givens before t viewing plan means) 1 viewing.viewers in
    (bytes, viewed is are))
