-- How viewers are started, and how the blocks of each are written.
use Rattle.std.proofs.Common.{◌≡◌, ◌∙◌, ℕ, suc, ◌+◌, Option, Some, None, Result, Ok, Err, List, [], length, inl, inr, sym, ap, subst, arith, refl}
use Rattle.std.proofs.lemmas.Result.{IfOk-weaker}
use Rattle.std.specs.List.{AllByRecursion, flat_map}
use Rattle.std.specs.Prelude.{IfErr, IfOk, OnOk, Vec}
use Rattle.std.specs.declared.alloc.Global.{Global}
use Rattle.board.specs.Editions.{Editions}
use Rattle.board.specs.Editions as keeper
use Rattle.cells.specs.declared.refused.Refused.{Refused}
use Rattle.cells.specs.declared.refused.Refused.TheVariants as refused
use Rattle.report.specs.Laws.{takes_nothing}
use Rattle.report.specs.declared.want.Want.{Want}
use Rattle.report.specs.Onlooking.{OnlookersValue}
use Rattle.report.specs.Watching.{ComesBack, GoUpTo, IsOf, Sight, Watch, Watching}
use Rattle.report.specs.declared.question.Question.{Question}
use Rattle.script.specs.Desks.{Keeps}
use Rattle.script.specs.Endings.{BeginsToWrite, Delivers}
use Rattle.script.specs.Givens.{Givens}
use Rattle.script.specs.Output.{Lines, edition, editions}
use Rattle.script.specs.Says.{IsRefused}
use Rattle.script.specs.Tails.{AreViewers, AreViews, Viewing, viewer_first}
use Rattle.script.specs.Turns.{Turn, first_turns, turns_from}
use Rattle.script.specs.Viewers.{AreOnlooking, Attend, HasAttended, HasViewers, IsAskedSo, IsStarted, MayShow, MayShowIn, ShowAll, begun, nobody, none_came, sent, turned, turns_by, turns_in, turns_of, view_block}
use Rattle.script.specs.declared.viewing.Showing.{Showing}
use Rattle.script.specs.declared.viewing.Showing.TheVariants.{AsTheyCome, Last}
use Rattle.script.specs.declared.ended.Ended.{Ended}
use Rattle.script.specs.declared.ended.Ended.TheVariants.{WriteFailed}
use Rattle.script.specs.declared.manner.Manner.{Manner}
use Rattle.script.specs.declared.stage.Stage.{Stage}
use Rattle.script.specs.declared.stage.Stage.TheVariants.{Begun, Expected, Turned}
use Rattle.script.proofs.EndingsLemmas.{SoFar, begins_more}
use Rattle.script.proofs.ViewsLemmas.{some_view, some_viewers, views_of}

-- ---- how they are started

module _ {T E : Type 0} (manner : Manner) (viewing : Viewing) (k : Editions) (watches : List Watch) (onlookers : OnlookersValue) where
  -- all viewers were started
  pub attend_started : (questions : List Question) (result : Result T E) → viewing.showing ≡ Last → onlookers ≡ nobody → OnOk result (length watches ≡ length questions) → length questions ≡ viewing.viewers →
      OnOk result (AllByRecursion (IsStarted manner viewing k) watches) → OnOk result (Attend manner viewing (Some k) Begun watches onlookers)
  attend_started questions (Ok x) last none many all started = subst (Attend manner viewing (Some k) Begun watches) (sym none) (begun last (many ∙ all) started)
  attend_started questions (Err e) last none many all started = tt

  -- or sent
  pub attend_sent : (result : Result T E) → viewing.showing ≡ AsTheyCome → watches ≡ [] → OnOk result (AreOnlooking manner viewing k onlookers) → OnOk result (Attend manner viewing (Some k) Begun watches onlookers)
  attend_sent (Ok x) coming none are = subst (λ ws. Attend manner viewing (Some k) Begun ws onlookers) (sym none) (sent coming are)
  attend_sent (Err e) coming none are = tt

turns_last : (showing : Showing) (viewing : Viewing) (stage : Stage) (onlookers : OnlookersValue) → showing ≡ Last → turns_by showing viewing stage onlookers ≡ first_turns viewing
turns_last Last viewing stage onlookers last = refl
turns_last AsTheyCome viewing stage onlookers last = absurd cc

turns_coming : (showing : Showing) (viewing : Viewing) (onlookers : OnlookersValue) (questions : List Question) → showing ≡ AsTheyCome → turns_in onlookers ≡ turns_from 1 viewing.shots (length questions) → length questions ≡ viewing.viewers →
    turns_by showing viewing Begun onlookers ≡ first_turns viewing
turns_coming Last viewing onlookers questions coming are many = absurd cc
turns_coming AsTheyCome viewing onlookers questions coming are many = are ∙ ap (turns_from 1 viewing.shots) many

-- those whose blocks come last have all still to come
pub last_turns : {T E : Type 0} (result : Result T E) (showing : Showing) (viewing : Viewing) (onlookers : OnlookersValue) → showing ≡ Last → OnOk result (turns_by showing viewing Begun onlookers ≡ first_turns viewing)
last_turns (Ok x) showing viewing onlookers last = turns_last showing viewing Begun onlookers last
last_turns (Err e) showing viewing onlookers last = tt

-- so have those who were sent
pub coming_turns : {T E : Type 0} (result : Result T E) (showing : Showing) (viewing : Viewing) (onlookers : OnlookersValue) (questions : List Question) → showing ≡ AsTheyCome → length questions ≡ viewing.viewers →
    OnOk result (turns_in onlookers ≡ turns_from 1 viewing.shots (length questions)) → OnOk result (turns_by showing viewing Begun onlookers ≡ first_turns viewing)
coming_turns (Ok x) showing viewing onlookers questions coming many are = turns_coming showing viewing onlookers questions coming are many
coming_turns (Err e) showing viewing onlookers questions coming many are = tt

-- and those who were turned away
pub turns_turned : (showing : Showing) (viewing : Viewing) (fault : Refused) (onlookers : OnlookersValue) → turns_by showing viewing (Turned fault) onlookers ≡ first_turns viewing
turns_turned Last viewing fault onlookers = refl
turns_turned AsTheyCome viewing fault onlookers = refl

-- it is the same of a run's viewers
pub turns_kept : {T E : Type 0} (asked : Option Viewing) (viewing : Viewing) (old new : Stage) (was is : OnlookersValue) (result : Result T E) → asked ≡ Some viewing → old ≡ Expected → OnOk result (turns_by viewing.showing viewing new is ≡ first_turns viewing) →
    OnOk result (turns_of asked new is ≡ turns_of asked old was)
turns_kept asked viewing old new was is (Err e) same first turns = tt
turns_kept asked viewing old new was is (Ok x) same first turns = rw (same, first) (turns ∙ sym (at_first viewing.showing)) where
  at_first : (showing : Showing) → turns_by showing viewing Expected was ≡ first_turns viewing
  at_first Last = refl
  at_first AsTheyCome = refl

-- their query is refused
pub turned_all : {manner : Manner} (viewing : Viewing) (k : Editions) (fault : Refused) (watches : List Watch) (onlookers : OnlookersValue) → (watches ≡ []) × (onlookers ≡ nobody) → (fault ≡ refused.OutOfMemory → ⊥) → IsRefused (keeper.schema k) viewing.query fault →
    Attend manner viewing (Some k) (Turned fault) watches onlookers
turned_all viewing k fault watches onlookers none memory (inl late) = absurd (memory late)
turned_all {manner = manner} viewing k fault watches onlookers none memory (inr says) = rw (none.0, none.1) (turned (says []))

-- they attend once they were started or turned away
pub attended_begun : {T E : Type 0} (manner : Manner) (asked : Option Viewing) (viewing : Viewing) (desk : Option Editions) (k : Editions) (stage : Stage) (watches : List Watch) (onlookers : OnlookersValue) (result : Result T E) →
    asked ≡ Some viewing → desk ≡ Some k → OnOk result (Attend manner viewing (Some k) stage watches onlookers) → OnOk result (stage ≡ Expected → ⊥) → OnOk result (HasAttended manner asked desk stage watches onlookers)
attended_begun manner asked viewing desk k stage watches onlookers (Ok x) same there attend late = rw (same, there) (record { attend = attend; declared = λ has is. absurd (late is) })
attended_begun manner asked viewing desk k stage watches onlookers (Err e) same there attend late = tt

pub has_viewers : (asked : Option Viewing) (viewing : Viewing) → asked ≡ Some viewing → HasViewers asked
has_viewers asked viewing same = rw same tt

-- ---- how their blocks come

-- where nobody came, all blocks are still to come that were
pub shows_nothing : (givens : Givens) (asked : Option Viewing) (before : Lines) (turns : List Turn) (text : List ℕ) → text ≡ [] → MayShow givens asked before turns turns text
shows_nothing givens None before turns text none = (refl, none)
shows_nothing givens (Some viewing) before turns text none = by viewing.showing where
  by : (showing : Showing) → MayShowIn showing givens viewing before turns turns text
  by Last = (refl, none)
  by AsTheyCome = subst (ShowAll givens viewing before turns turns) (sym none) none_came

-- those who came and went on look on still
pub attended_still : {T E : Type 0} (manner : Manner) (asked : Option Viewing) (viewing : Viewing) (desk new_desk : Option Editions) (k : Editions) (stage : Stage) (watches : List Watch) (old new : OnlookersValue) (result : Result T E) →
    asked ≡ Some viewing → stage ≡ Begun → viewing.showing ≡ AsTheyCome → desk ≡ Some k → new_desk ≡ desk → HasAttended manner asked desk stage watches old → OnOk result (AreOnlooking manner viewing k new) →
    OnOk result (HasAttended manner asked new_desk stage watches new)
attended_still manner asked viewing desk new_desk k stage watches old new (Err e) same is coming there kept has are = tt
attended_still manner asked viewing desk new_desk k stage watches old new (Ok x) same is coming there kept has are =
    rw (kept, there, same, is) (record {
      attend = go (rw (there, same, is) at has.attend);
      declared = λ has_viewers late. absurd cc;
    }) where
      go : {ws : List Watch} {o : OnlookersValue} → Attend manner viewing (Some k) Begun ws o → Attend manner viewing (Some k) Begun ws new
      go (begun shown many all) = absurd (let late = sym shown ∙ coming in cc)
      go (sent shown was) = sent coming are

pub shows_those : {E : Type 0} (givens : Givens) (asked : Option Viewing) (viewing : Viewing) (before : Lines) (stage : Stage) (old new : OnlookersValue) (result : Result (Vec ℕ Global) E) →
    asked ≡ Some viewing → stage ≡ Begun → viewing.showing ≡ AsTheyCome → IfOk result (λ text. ShowAll givens viewing before (turns_in old) (turns_in new) text.items) →
    IfOk result (λ text. MayShow givens asked before (turns_of asked stage old) (turns_of asked stage new) text.items)
shows_those givens asked viewing before stage old new (Err e) same is coming shown = tt
shows_those givens asked viewing before stage old new (Ok text) same is coming shown = rw (same, is) (by viewing.showing coming) where
  by : (showing : Showing) → showing ≡ AsTheyCome → MayShowIn showing givens viewing before (turns_by showing viewing Begun old) (turns_by showing viewing Begun new) text.items
  by Last late = absurd cc
  by AsTheyCome here = shown

-- ---- how one is written

-- the blocks of the reports up to the last edition
pub blocks_of : (manner : Manner) (givens : Givens) (before : Lines) (k : Editions) (query : List ℕ) (question : Question) (viewer count n : ℕ) (shots : List Sight) (text : List ℕ) →
    IsAskedSo manner (keeper.schema k) query question → Keeps givens before k → n ≡ count → GoUpTo (keeper.history k) question (keeper.edition k) 0 n shots → text ≡ flat_map (view_block manner.form viewer) shots →
    AreViews manner (keeper.schema k) (editions givens before) query (keeper.edition k) viewer 0 count text
blocks_of manner givens before k query question viewer count n shots text asked keeps many up is =
    subst (AreViews manner (keeper.schema k) (editions givens before) query (keeper.edition k) viewer 0 count) (sym is)
    (subst (λ m. AreViews manner (keeper.schema k) (editions givens before) query (keeper.edition k) viewer 0 m (flat_map (view_block manner.form viewer) shots)) many
    (views_of manner givens before k query question asked keeps.history viewer up))

-- ---- how they come back

-- a viewer of the keeper, which answers the query and made all its reports
pub record CameBack (manner : Manner) (viewing : Viewing) (k : Editions) (watcher : Watching) : Type 0 where
  pub own : IsOf k watcher.viewer
  pub asked : IsAskedSo manner (keeper.schema k) viewing.query watcher.question
  pub many : length watcher.shots ≡ viewing.shots

pub came_back : (manner : Manner) (viewing : Viewing) (k : Editions) (old new : List Watch) (result : Result Watching Want) → ComesBack old new result → AllByRecursion (IsStarted manner viewing k) old →
    IfOk result (CameBack manner viewing k)
came_back manner viewing k old new result back all =
    let started = (subst (AllByRecursion (IsStarted manner viewing k)) back.first all).0 in
    IfOk-weaker result _ _ (λ watcher has. record {
      own = record { board = has.board ∙ started.board; schema = has.schema ∙ started.schema };
      asked = subst (IsAskedSo manner (keeper.schema k) viewing.query) (sym has.question) started.asked;
      many = omega (arith, has.many, ap length started.none, started.count);
    }) back.watched

-- one fewer is left, and each of them was started
pub left_back : (manner : Manner) (viewing : Viewing) (k : Editions) (old new : List Watch) (result : Result Watching Want) → ComesBack old new result → AllByRecursion (IsStarted manner viewing k) old →
    AllByRecursion (IsStarted manner viewing k) new × (length old ≡ suc (length new))
left_back manner viewing k old new result back all = ((subst (AllByRecursion (IsStarted manner viewing k)) back.first all).1, ap length back.first)

-- blocks that any of them might have
pub some_back : {manner : Manner} (givens : Givens) (before : Lines) (viewing : Viewing) (k : Editions) (old new : List Watch) (result : Result Watching Want) → Keeps givens before k → ComesBack old new result → AllByRecursion (IsStarted manner viewing k) old →
    (viewer count : ℕ) → (bytes : List ℕ) × AreViewers manner (keeper.schema k) (editions givens before) (keeper.edition k) viewing viewer count bytes
some_back {manner = manner} givens before viewing k old new result keeps back all =
    let asked = (subst (AllByRecursion (IsStarted manner viewing k)) back.first all).0.asked in
    subst (λ last. (viewer count : ℕ) → (bytes : List ℕ) × AreViewers manner (keeper.schema k) (editions givens before) last viewing viewer count bytes) (sym keeps.edition)
    (some_viewers manner (keeper.schema k) (editions givens before) (edition givens before) viewing (some_view manner givens before (keeper.schema k) viewing asked.plan asked.means))

-- one of them ended the run behind a beginning of its blocks
pub delivers_more : {W S T : Type 0} {manner : Manner} (taken : W → Option (List ℕ)) (faults : W → ℕ) (old middle new : W) (givens : Givens) (before : Lines) (viewing : Viewing) (k : Editions) (number many left : ℕ) (e : Ended) (one : Result S Ended) (result : Result T Ended) →
    SoFar (taken old) (taken middle) (AreViewers manner (keeper.schema k) (editions givens before) (keeper.edition k) viewing (number + 1) left) (AreViewers manner (keeper.schema k) (editions givens before) (keeper.edition k) viewing 1 many) → (fewer : ℕ) → left ≡ suc fewer →
    ((viewer count : ℕ) → (bytes : List ℕ) × AreViewers manner (keeper.schema k) (editions givens before) (keeper.edition k) viewing viewer count bytes) → faults middle ≡ faults old →
    one ≡ Err e → Delivers taken faults middle new (AreViews manner (keeper.schema k) (editions givens before) viewing.query (keeper.edition k) (number + 1) 0 viewing.shots) one → result ≡ Err e →
    Delivers taken faults old new (AreViewers manner (keeper.schema k) (editions givens before) (keeper.edition k) viewing 1 many) result
delivers_more {S = S} {manner = manner} taken faults old middle new givens before viewing k number many left e one result so_far fewer is some sound met one_is ended =
    let d : Delivers {T = S} taken faults middle new (AreViews manner (keeper.schema k) (editions givens before) viewing.query (keeper.edition k) (number + 1) 0 viewing.shots) (Err e) =
    subst (Delivers taken faults middle new (AreViews manner (keeper.schema k) (editions givens before) viewing.query (keeper.edition k) (number + 1) 0 viewing.shots)) met one_is in
    let (rest, are) = some (number + 1 + 1) fewer in
    let p = d.beginning in
    subst (Delivers taken faults old new (AreViewers manner (keeper.schema k) (editions givens before) (keeper.edition k) viewing 1 many)) (sym ended) (record {
      output = tt;
      beginning = begins_more (subst (λ n. SoFar (taken old) (taken middle) (AreViewers manner (keeper.schema k) (editions givens before) (keeper.edition k) viewing (number + 1) n) (AreViewers manner (keeper.schema k) (editions givens before) (keeper.edition k) viewing 1 many)) is so_far)
          (taken new) (AreViewers manner (keeper.schema k) (editions givens before) (keeper.edition k) viewing (number + 1 + 1) fewer) p.whole (λ more views. viewer_first p.whole more p.is_whole views) rest are p.beginning;
      fault = λ late. let writer : e ≡ WriteFailed = cc in let failed = d.fault (ap Err writer) in omega (arith, failed, sound);
      sound = tt;
    })

-- nothing was written yet of what might be
pub nothing_yet : (IsWhole : List ℕ → Type 0) (told : Option (List ℕ)) (whole : List ℕ) → IsWhole whole → BeginsToWrite IsWhole told told
nothing_yet IsWhole told whole is = record { whole = whole; is_whole = is; beginning = takes_nothing told whole }

-- what is so is so of any error
pub if_err_any : {T E : Type 0} (r : Result T E) (P : Type 0) → P → IfErr r (λ _. P)
if_err_any (Ok x) P p = tt
if_err_any (Err e) P p = p

pub ok_so : {T E : Type 0} (r : Result T E) (x : T) (P : T → Type 0) → IfOk r P → r ≡ Ok x → P x
ok_so (Ok y) x P p is = let same : y ≡ x = cc in subst P same p
ok_so (Err f) x P p is = absurd cc
