-- What two shards tell together.
use Rattle.std.proofs.Common.{◌≡◌, ◌∙◌, ◌||◌, ℕ, ◌+◌, ◌≤◌, Bor, Bool, true, false, cond, IfOk, IfSome, Option, Some, None, Result, Ok, Err, List, [], ◌∷◌, ◌++◌, length, filter, refl, sym, ap, subst, append_assoc, arith}
use Rattle.std.proofs.lemmas.List.{append-nil}
use Rattle.std.proofs.lemmas.List.Sorted.{IsPermutation-cons, IsPermutation-middle, IsPermutation-refl, IsPermutation-trans}
use Rattle.std.specs.List.Sorted.{IsPermutation}
use Rattle.cells.specs.Updates.{Put, Update}
use Rattle.cells.specs.Values.{RowValue, Table}
use Rattle.cells.specs.declared.cell.Cell.{Cell}
use Rattle.groups.specs.Groups.{keeps, kept}
use Rattle.groups.specs.Told.{GroupValue, Tells}
use Rattle.loader.specs.Shards.{taken}
use Rattle.query.specs.Plans.{PlanTree}
use Rattle.query.specs.Trees.{PredicateTree}
use Rattle.query.specs.declared.test.Test.{Test}
use Rattle.script.specs.Deeds.{Declares, Deed, Loads, Nothing, Publishes, Reports, Shapes, Updates}
use Rattle.script.specs.Givens.{Givens}
use Rattle.script.specs.Joining.{AreAlike, AreTogether, Joins}
use Rattle.script.specs.Limits.{script_limit}
use Rattle.script.specs.Output.{Lines, declared, deed_behind, published}
use Rattle.script.specs.Retelling.{TellsKept}
use Rattle.script.specs.Says.{MeansPlan, Says, no_plan, no_query}
use Rattle.script.specs.Told.{AreTold, IsKeptFor, IsRefusedReport, IsTold, IsToldReport}
use Rattle.script.specs.Walks.{GoesOver, IsDoing, IsLoad, IsSilent, StandsBehind}
use Rattle.script.specs.declared.fault.Fault.{Fault}
use Rattle.script.specs.declared.told.Told.{Told}
use Rattle.script.specs.declared.told.Told.TheVariants as told
use Rattle.script.specs.declared.walk.Doing.{Doing}
use Rattle.script.specs.declared.walk.Doing.TheVariants as doing
use Rattle.script.specs.declared.walk.Walk.{Walk}
use Rattle.script.proofs.SaysLemmas.{OneAnswer}
use Rattle.script.proofs.RetellingLemmas.{one_plan, same_table}
use Rattle.script.proofs.WalksLemmas.{does_behind, given_so, stands_more}

-- ---- the rows of both

module _ {X : Type 0} where
  front : (k : Bool) (x : X) (us vs ws : List X) → IsPermutation (us ++ vs) ws → IsPermutation (cond k (x ∷ us) us ++ vs) (cond k (x ∷ ws) ws)
  front true x us vs ws p = IsPermutation-cons x (us ++ vs) ws p
  front false x us vs ws p = p

  middle : (k : Bool) (x : X) (us vs ws : List X) → IsPermutation (us ++ vs) ws → IsPermutation (us ++ cond k (x ∷ vs) vs) (cond k (x ∷ ws) ws)
  middle true x us vs ws p = IsPermutation-trans _ _ _ (IsPermutation-middle us x vs) (IsPermutation-cons x (us ++ vs) ws p)
  middle false x us vs ws p = p

  -- one row more, which belongs to one of both at most
  one_more : (q : X → Bool) (a b : Bool) (x : X) (us vs ws : List X) → (a ≡ true → b ≡ false) → IsPermutation (filter q us ++ filter q vs) (filter q ws) →
      IsPermutation (filter q (cond a (x ∷ us) us) ++ filter q (cond b (x ∷ vs) vs)) (filter q (cond (a || b) (x ∷ ws) ws))
  one_more q true true x us vs ws apart p = absurd (let bad : true ≡ false = apart refl in cc)
  one_more q true false x us vs ws apart p = front (q x) x (filter q us) (filter q vs) (filter q ws) p
  one_more q false true x us vs ws apart p = middle (q x) x (filter q us) (filter q vs) (filter q ws) p
  one_more q false false x us vs ws apart p = p

module _ (one two : Cell → Bool) (apart : (key : Cell) → one key ≡ true → two key ≡ false) where
  both_taken : (condition : Option (PredicateTree (Test ℕ))) (rs : List RowValue) →
      IsPermutation (kept condition (taken one rs) ++ kept condition (taken two rs)) (kept condition (taken (λ key. one key || two key) rs))
  both_taken condition [] = IsPermutation-refl []
  both_taken condition (r ∷ rs) =
      one_more (keeps condition) (one r.key) (two r.key) r (taken one rs) (taken two rs) (taken (λ key. one key || two key) rs) (apart r.key) (both_taken condition rs)

  -- the rows that either takes
  taken_together : (rs : List RowValue) → AreTogether (taken one rs) (taken two rs) (taken (λ key. one key || two key) rs)
  taken_together rs = record { together = λ condition. both_taken condition rs }

-- ---- reports

-- a text is refused whatever the rows are
refused_still : {t : Table} {rs : List RowValue} {query : List ℕ} (zs : List RowValue) → IsRefusedReport t rs query → IsRefusedReport t zs query
refused_still {t} {rs} {query} zs is = record { fault = is.fault; says = again is.says } where
  again : Says t rs query (Err is.fault) → Says t zs query (Err is.fault)
  again (no_query first) = no_query first
  again (no_plan asks fault) = no_plan asks fault

pub refused_both : (t : Table) (xs zs : List RowValue) (query : List ℕ) (first second : Told) (o : Option Told) → first ≡ told.Nothing → IsToldReport t xs query first → IfSome o (AreAlike told.Nothing second) → IfSome o (IsToldReport t zs query)
refused_both t xs zs query first second None none is alike = tt
refused_both t xs zs query first second (Some both) none is alike =
    subst (IsToldReport t zs query) (sym alike.as_first) (refused_still zs (subst (IsToldReport t xs query) none is))

-- what is kept of the plan that the text asks for
kept_again : (t : Table) (zs : List RowValue) (query : List ℕ) (plan : PlanTree) (both : Told) → MeansPlan t query plan → TellsKept plan zs both → IsToldReport t zs query both
kept_again t zs query plan told.Nothing means tells = absurd tells
kept_again t zs query plan (told.Refused fault) means tells = absurd tells
kept_again t zs query plan (told.Kept sets) means tells = record { plan = plan; means = means; tells = tells }

kept_plan : OneAnswer → (t : Table) (rs : List RowValue) (query : List ℕ) (plan : PlanTree) (sets : List (List GroupValue)) → MeansPlan t query plan → IsKeptFor t rs query sets → Tells plan (kept plan.condition rs) sets
kept_plan law t rs query plan sets means is = subst (λ p. Tells p (kept p.condition rs) sets) (one_plan law t rs query is.plan plan is.means means) is.tells

pub groups_both : {E : Type 0} → OneAnswer → (declared : Option Table) (schema t : Table) (xs ys zs : List RowValue) (query : List ℕ) (plan : PlanTree) (firsts seconds : List (List GroupValue)) (result : Result (Option Told) E) →
    declared ≡ Some schema → declared ≡ Some t → MeansPlan schema query plan → AreTogether xs ys zs → IsKeptFor t xs query firsts → IsKeptFor t ys query seconds →
    ((us vs ws : List RowValue) → AreTogether us vs ws → Tells plan (kept plan.condition us) firsts → Tells plan (kept plan.condition vs) seconds → IfOk result (λ o. IfSome o (TellsKept plan ws))) →
    IfOk result (λ o. IfSome o (IsToldReport t zs query))
groups_both law declared schema t xs ys zs query plan firsts seconds result has named means together one two gives =
    let asks = subst (λ (s : Table). MeansPlan s query plan) (same_table declared schema t has named) means in
    given_so result _ _ (λ both. kept_again t zs query plan both asks)
    (gives xs ys zs together (kept_plan law t xs query plan firsts asks one) (kept_plan law t ys query plan seconds asks two))

-- ---- a line

-- what is told of a line that is no report is told of any rows
told_alike : (givens : Givens) (one other : Cell → Bool) (before : Lines) (does : Result Deed Fault) (first both : Told) → ((t : Table) (query : List ℕ) → does ≡ Ok (Reports t query) → ⊥) → both ≡ first →
    IsTold givens one before does first → IsTold givens other before does both
told_alike givens one other before (Ok Nothing) first both differs same it = same ∙ it
told_alike givens one other before (Ok (Declares t)) first both differs same it = same ∙ it
told_alike givens one other before (Ok (Loads t listing)) first both differs same it = same ∙ it
told_alike givens one other before (Ok (Updates more)) first both differs same it = same ∙ it
told_alike givens one other before (Ok Publishes) first both differs same it = same ∙ it
told_alike givens one other before (Ok (Reports t query)) first both differs same it = absurd (differs t query refl)
told_alike givens one other before (Ok Shapes) first both differs same it = absurd it
told_alike givens one other before (Err fault) first both differs same it = same ∙ it

-- what both tell alike, of a line that does what no report does
alike_joins : (walk : Walk) (doing : Doing) (first second : Told) (o : Option Told) → ((does : Result Deed Fault) (t : Table) (query : List ℕ) → IsDoing walk.schema does doing → does ≡ Ok (Reports t query) → ⊥) →
    IfSome o (AreAlike first second) → IfSome o (Joins walk doing first second)
alike_joins walk doing first second None differs alike = tt
alike_joins walk doing first second (Some both) differs alike = record {
  is = λ givens one two before does apart done it other. told_alike givens one (λ key. one key || two key) before does first both (λ t query. differs does t query done) alike.as_first it;
}

pub quiet_joins : (walk : Walk) (first second : Told) (o : Option Told) → IfSome o (AreAlike first second) → IfSome o (Joins walk doing.Quiet first second)
quiet_joins walk first second o = alike_joins walk doing.Quiet first second o (λ does t query quiet is. subst IsSilent is quiet)

apart_updates : (does : Result Deed Fault) (more : List Update) (t : Table) (query : List ℕ) → does ≡ Ok (Updates more) → does ≡ Ok (Reports t query) → ⊥
apart_updates does more t query is other = absurd cc

pub put_joins : (walk : Walk) (first second : Told) (o : Option Told) → IfSome o (AreAlike first second) → IfSome o (Joins walk doing.Puts first second)
put_joins walk first second o = alike_joins walk doing.Puts first second o (λ does t query puts is. apart_updates does (Put puts.row ∷ []) t query puts.is is)

pub load_joins : (walk : Walk) (first second : Told) (o : Option Told) → IfSome o (AreAlike first second) → IfSome o (Joins walk doing.Loads first second)
load_joins walk first second o = alike_joins walk doing.Loads first second o (λ does t query load is. subst IsLoad is load)

apart_deeds : (fault : Fault) (t : Table) (query : List ℕ) → Err fault ≡ Ok (Reports t query) → ⊥
apart_deeds fault t query bad = absurd cc

pub refused_joins : (walk : Walk) (fault : Fault) (first second : Told) (o : Option Told) → IfSome o (AreAlike first second) → IfSome o (Joins walk (doing.Refused fault) first second)
refused_joins walk fault first second o = alike_joins walk (doing.Refused fault) first second o (λ does t query refuses is. apart_deeds fault t query (sym refuses ∙ is))

pub report_joins : {E : Type 0} (walk : Walk) (query : Bor (List ℕ)) (first second : Told) (result : Result (Option Told) E) →
    ((t : Table) (xs ys zs : List RowValue) → AreTogether xs ys zs → walk.schema ≡ Some t → IsToldReport t xs query.now first → IsToldReport t ys query.now second → IfOk result (λ o. IfSome o (IsToldReport t zs query.now))) →
    IfOk result (λ o. IfSome o (Joins walk (doing.Reports query) first second))
report_joins walk query first second (Ok (Some both)) gives = record {
  is = λ givens one two before does apart reports it other.
      let t = reports.table in
      let rs = published givens before in
      let either = λ (key : Cell). one key || two key in
      subst (λ d. IsTold givens either before d both) (sym reports.is)
      (gives t (taken one rs) (taken two rs) (taken either rs) (taken_together one two apart rs) reports.has
      (subst (λ d. IsTold givens one before d first) reports.is it) (subst (λ d. IsTold givens two before d second) reports.is other));
}
report_joins walk query first second (Ok None) gives = tt
report_joins walk query first second (Err e) gives = tt

-- ---- over all lines

-- what is left of both is told of what is left of the script, and what is told of that behind what is joined is told of all
pub record BothCome (givens : Givens) (one two : Cell → Bool) (before rest script : Lines) (firsts seconds both : List Told) : Type 0 where
  pub first : AreTold givens one before rest firsts
  pub second : AreTold givens two before rest seconds
  pub all : (more : List Told) → AreTold givens (λ key. one key || two key) before rest more → AreTold givens (λ key. one key || two key) [] script (both ++ more)

-- the lines before are joined
pub record Joined (before rest script : Lines) (first second firsts seconds both : List Told) (walk : Walk) : Type 0 where
  pub stands : StandsBehind before walk
  pub short : length before + length rest ≤ script_limit + 1
  pub comes : (givens : Givens) (one two : Cell → Bool) → ((key : Cell) → one key ≡ true → two key ≡ false) → AreTold givens one [] script first → AreTold givens two [] script second →
      BothCome givens one two before rest script firsts seconds both

pub joined_start : (script : Lines) (first second firsts seconds both : List Told) (walk : Walk) → StandsBehind [] walk → firsts ≡ first → seconds ≡ second → both ≡ [] → length script ≤ script_limit + 1 →
    Joined [] script script first second firsts seconds both walk
joined_start script first second firsts seconds both walk stands same_first same_second none short = record {
  stands = stands;
  short = omega (arith, short);
  comes = λ givens one two apart are others. record {
    first = subst (AreTold givens one [] script) (sym same_first) are;
    second = subst (AreTold givens two [] script) (sym same_second) others;
    all = λ more rest. subst (λ l. AreTold givens (λ key. one key || two key) [] script (l ++ more)) (sym none) rest;
  };
}

module _ (before now_left script : Lines) (first second firsts seconds both : List Told) (walk : Walk) (so_far : Joined before now_left script first second firsts seconds both walk) where
  -- one line more
  pub joined_more : (line : List ℕ) (rest : Lines) (it other made : Told) (more others new : List Told) (after : Walk) (does : Doing) → now_left ≡ line ∷ rest → firsts ≡ it ∷ more → seconds ≡ other ∷ others →
      GoesOver line walk after does → Joins after does it other made → new ≡ both ++ made ∷ [] → Joined (line ∷ before) rest script first second more others new after
  joined_more line rest it other made more others new after does is takes takes_other goes joins pushed = record {
    stands = stands_more before line walk after does so_far.stands goes;
    short = omega (arith, so_far.short, ap length is);
    comes = λ givens one two apart are theirs.
        let come = so_far.comes givens one two apart are theirs in
        let either = λ (key : Cell). one key || two key in
        let ours_now = subst (AreTold givens one before (line ∷ rest)) takes (subst (λ ls. AreTold givens one before ls firsts) is come.first) in
        let theirs_now = subst (AreTold givens two before (line ∷ rest)) takes_other (subst (λ ls. AreTold givens two before ls seconds) is come.second) in
        let made_is = joins.is givens one two before (deed_behind givens before line) apart (does_behind givens before line walk after does so_far.stands goes) ours_now.0 theirs_now.0 in
        record {
          first = ours_now.1;
          second = theirs_now.1;
          all = λ later rest_is.
              subst (AreTold givens either [] script) (sym (append_assoc both (made ∷ []) later) ∙ ap (λ l. l ++ later) (sym pushed))
              (come.all (made ∷ later) (subst (λ ls. AreTold givens either before ls (made ∷ later)) (sym is) (made_is, rest_is)));
        };
  }

  -- no line is left
  pub joined_all : now_left ≡ [] → (givens : Givens) (one two : Cell → Bool) → ((key : Cell) → one key ≡ true → two key ≡ false) → AreTold givens one [] script first → AreTold givens two [] script second →
      AreTold givens (λ key. one key || two key) [] script both
  joined_all is givens one two apart are others =
      let come = so_far.comes givens one two apart are others in
      let either = λ (key : Cell). one key || two key in
      subst (AreTold givens either [] script) (append-nil both) (come.all [] (subst (λ ls. AreTold givens either before ls []) (sym is) tt))
