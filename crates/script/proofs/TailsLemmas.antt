-- What comes after the blocks of all lines.
use Rattle.std.proofs.Common.{◌≡◌, ◌∙◌, ℕ, ◌+◌, ◌<◌, ◌≤◌, Option, Some, None, Result, Ok, Err, List, [], ◌∷◌, ◌++◌, length, refl, sym, subst, arith}
use Rattle.std.proofs.KnownBytes.{Appends-nil}
use Rattle.std.specs.Io.KnownBytes.{Appends}
use Rattle.std.specs.List.{AllByRecursion}
use Rattle.std.specs.Prelude.{⊤}
use Rattle.std.specs.Str.Lines.{lines}
use Rattle.board.specs.Editions.{Editions, Known}
use Rattle.board.specs.Editions as keeper
use Rattle.cells.specs.Values.{Table}
use Rattle.cells.specs.declared.cell.Cell.{Cell}
use Rattle.cells.specs.declared.refused.Refused.{Refused}
use Rattle.cells.specs.declared.refused.Refused.TheVariants.{NoTable}
use Rattle.query.specs.Plans.{PlanTree}
use Rattle.report.specs.Taken.{TakesBeginning}
use Rattle.report.specs.Watching.{Watch, watch_from}
use Rattle.report.specs.declared.question.Question.{Question}
use Rattle.script.specs.Endings.{Delivers}
use Rattle.script.specs.Givens.{Givens}
use Rattle.script.specs.Output.{Lines, declared, edition, editions}
use Rattle.script.specs.Says.{MeansPlan, Says}
use Rattle.script.specs.Spelling.{viewers_refused}
use Rattle.script.specs.Tails.{AreViewers, AreViews, Viewing, turned_away, undeclared, viewed, IsTailBehind}
use Rattle.script.specs.Desks.{IsBehind, Keeps, Stays}
use Rattle.script.specs.Stops.{no_line}
use Rattle.script.specs.Viewers.{Attend, HasAttended, IsAskedSo, IsStarted, MayAttend, begun, expected, turned, AreOnlooking, IsOnlooking, IsRest, IsRestIn, nobody, sent, turns_at, turns_by, turns_in, turns_of, AreLate}
use Rattle.script.specs.declared.ended.Ended.{Ended}
use Rattle.script.specs.declared.ended.Ended.TheVariants.{WriteFailed}
use Rattle.script.specs.declared.finish.Finish.TheVariants.{Through}
use Rattle.script.specs.declared.manner.Manner.{Manner}
use Rattle.script.specs.declared.on_refusal.OnRefusal.{OnRefusal}
use Rattle.script.specs.declared.stage.Stage.{Stage}
use Rattle.script.specs.declared.stage.Stage.TheVariants.{Begun, Expected, Turned}
use Rattle.script.proofs.ProgressLemmas.{delivers_as}
use Rattle.report.specs.Onlooking.{Onlooking, OnlookersValue}
use Rattle.script.specs.Turns.{AreBlocksBeside, Turn, first_turns, lines_end, no_table, refused_query}
use Rattle.script.specs.declared.viewing.Showing.{Showing}
use Rattle.script.specs.declared.viewing.Showing.TheVariants.{AsTheyCome, Last}
use Rattle.script.proofs.ComingLemmas.{onlookers_late}
use Rattle.script.proofs.TurnsLemmas.{edition_grows, first_late}
use Rattle.script.proofs.ViewsLemmas.{all_more, some_view, some_views}

-- ---- how far viewers are

-- they stay so as long as the keeper stays
started_stays : (manner : Manner) (viewing : Viewing) (k new : Editions) (watches : List Watch) → Stays (Some k) (Some new) → AllByRecursion (IsStarted manner viewing k) watches → AllByRecursion (IsStarted manner viewing new) watches
started_stays manner viewing k new [] stays all = tt
started_stays manner viewing k new (watch ∷ more) stays (is, all) = (
  record {
    board = is.board ∙ sym stays.board;
    schema = is.schema ∙ sym stays.schema;
    asked = subst (λ t. IsAskedSo manner t viewing.query watch.before.question) (sym stays.schema) is.asked;
    none = is.none;
    count = is.count;
  },
  started_stays manner viewing k new more stays all,
)

-- those who look on do, too, since no edition is taken back
onlooking_stays : (manner : Manner) (viewing : Viewing) (k new : Editions) (onlooker : Onlooking) → Stays (Some k) (Some new) → keeper.edition k ≤ keeper.edition new → IsOnlooking manner viewing k onlooker → IsOnlooking manner viewing new onlooker
onlooking_stays manner viewing k new onlooker stays grows is = record {
  board = is.board ∙ sym stays.board;
  schema = is.schema ∙ sym stays.schema;
  asked = subst (λ t. IsAskedSo manner t viewing.query onlooker.question) (sym stays.schema) is.asked;
  late = omega (arith, is.late, grows);
  knows = is.knows;
}

all_stay : (manner : Manner) (viewing : Viewing) (k new : Editions) (P : Onlooking → Type 0) (all : List Onlooking) → Stays (Some k) (Some new) → keeper.edition k ≤ keeper.edition new →
    AllByRecursion (λ o. IsOnlooking manner viewing k o × P o) all → AllByRecursion (λ o. IsOnlooking manner viewing new o × P o) all
all_stay manner viewing k new P [] stays grows are = tt
all_stay manner viewing k new P (o ∷ more) stays grows (is, are) = ((onlooking_stays manner viewing k new o stays grows is.0, is.1), all_stay manner viewing k new P more stays grows are)

-- a keeper that stays takes no edition back
abbrev Grows : Option Editions → Option Editions → Type 0
Grows None new = ⊤
Grows (Some k) None = ⊤
Grows (Some k) (Some new) = keeper.edition k ≤ keeper.edition new

pub desk_grows : (givens : Givens) (before : Lines) (line : List ℕ) (old new : Option Editions) → IsBehind givens before old → IsBehind givens (line ∷ before) new → Grows old new
desk_grows givens before line None new stood stands = tt
desk_grows givens before line (Some k) None stood stands = tt
desk_grows givens before line (Some k) (Some new) stood stands = let grown = edition_grows givens before line in omega (arith, stood.edition, stands.edition, grown)

attend_stays : {manner : Manner} (viewing : Viewing) (old new : Option Editions) (stage : Stage) (watches : List Watch) (onlookers : OnlookersValue) → Stays old new → Grows old new → Attend manner viewing old stage watches onlookers → Attend manner viewing new stage watches onlookers
attend_stays viewing old new stage watches onlookers stays grows expected = expected
attend_stays viewing (Some k) None stage watches onlookers stays grows (turned says) = absurd stays
attend_stays viewing (Some k) (Some l) stage watches onlookers stays grows (turned {fault = fault} says) = turned (subst (λ t. Says t [] viewing.query (Err fault)) (sym stays.schema) says)
attend_stays viewing (Some k) None stage watches onlookers stays grows (begun last many all) = absurd stays
attend_stays {manner = manner} viewing (Some k) (Some l) stage watches onlookers stays grows (begun last many all) = begun last many (started_stays manner viewing k l watches stays all)
attend_stays viewing (Some k) None stage watches onlookers stays grows (sent coming are) = absurd stays
attend_stays {manner = manner} viewing (Some k) (Some l) stage watches onlookers stays grows (sent coming are) = sent coming (record {
  going = all_stay manner viewing k l (λ o. 0 < o.left) onlookers.going stays grows are.going;
  waiting = all_stay manner viewing k l (λ o. o.left ≡ 0) onlookers.waiting stays grows are.waiting;
})

pub may_attend : {manner : Manner} (asked : Option Viewing) (old new : Option Editions) (stage : Stage) (watches : List Watch) (onlookers : OnlookersValue) → Stays old new → Grows old new → HasAttended manner asked old stage watches onlookers → MayAttend manner asked new stage watches onlookers
may_attend None old new stage watches onlookers stays grows has = tt
may_attend (Some viewing) old new stage watches onlookers stays grows has = attend_stays viewing old new stage watches onlookers stays grows has.attend

-- nobody was started yet
pub first_attended : {manner : Manner} (asked : Option Viewing) (desk : Option Editions) (stage : Stage) (watches : List Watch) (onlookers : OnlookersValue) → desk ≡ None → stage ≡ Expected → watches ≡ [] → onlookers ≡ nobody →
    HasAttended manner asked desk stage watches onlookers
first_attended None desk stage watches onlookers fresh is none no_onlooker = record { attend = tt; declared = λ has late. absurd has }
first_attended (Some viewing) desk stage watches onlookers fresh is none no_onlooker = record { attend = rw (is, none, no_onlooker) expected; declared = λ has late. fresh }

-- a run has no viewers, they were started or turned away, or there is no table
pub attended_none : {manner : Manner} (asked : Option Viewing) (desk : Option Editions) (stage : Stage) (watches : List Watch) (onlookers : OnlookersValue) → asked ≡ None → HasAttended manner asked desk stage watches onlookers
attended_none asked desk stage watches onlookers is = rw is (record { attend = tt; declared = λ has late. absurd has })

pub attended_late : {manner : Manner} (asked : Option Viewing) (desk : Option Editions) (stage : Stage) (watches : List Watch) (onlookers : OnlookersValue) → MayAttend manner asked desk stage watches onlookers → (stage ≡ Expected → desk ≡ None) →
    HasAttended manner asked desk stage watches onlookers
attended_late asked desk stage watches onlookers attend late = record { attend = attend; declared = λ has is. late is }

-- no viewer has shown an edition that the lines did not publish
pub attended_turns : {manner : Manner} (givens : Givens) (lines : Lines) (asked : Option Viewing) (desk : Option Editions) (stage : Stage) (watches : List Watch) (onlookers : OnlookersValue) → HasAttended manner asked desk stage watches onlookers →
    IsBehind givens lines desk → AreLate (edition givens lines) (turns_of asked stage onlookers)
attended_turns givens lines None desk stage watches onlookers has stands = tt
attended_turns {manner = manner} givens lines (Some viewing) desk stage watches onlookers has stands = by viewing.showing refl where
  first : AreLate (edition givens lines) (first_turns viewing)
  first = first_late (edition givens lines) 1 viewing.shots viewing.viewers

  go : {desk : Option Editions} {stage : Stage} {watches : List Watch} {onlookers : OnlookersValue} → Attend manner viewing desk stage watches onlookers → IsBehind givens lines desk → AreLate (edition givens lines) (turns_at viewing stage onlookers)
  go expected stands = first
  go (turned says) stands = first
  go (begun shown many all) stands = tt
  go (sent {k = k} {onlookers = onlookers} shown are) stands = subst (λ n. AreLate n (turns_in onlookers)) stands.edition (onlookers_late manner viewing k onlookers are)

  by : (showing : Showing) → viewing.showing ≡ showing → AreLate (edition givens lines) (turns_by showing viewing stage onlookers)
  by Last is = first
  by AsTheyCome is = go has.attend stands

pub expected_nobody : (manner : Manner) (asked : Option Viewing) (viewing : Viewing) (desk : Option Editions) (stage : Stage) (watches : List Watch) (onlookers : OnlookersValue) → asked ≡ Some viewing → stage ≡ Expected →
    MayAttend manner asked desk stage watches onlookers → (watches ≡ []) × (onlookers ≡ nobody)
expected_nobody manner None viewing desk stage watches onlookers same is attend = absurd cc
expected_nobody manner (Some other) viewing desk stage watches onlookers same is attend = go attend is where
  go : {desk : Option Editions} {stage : Stage} {watches : List Watch} {onlookers : OnlookersValue} → Attend manner other desk stage watches onlookers → stage ≡ Expected → (watches ≡ []) × (onlookers ≡ nobody)
  go expected is = (refl, refl)
  go (turned says) is = absurd cc
  go (begun last many all) is = absurd cc
  go (sent coming are) is = absurd cc

-- ---- how a tail is delivered

module _ {W T : Type 0} (taken : W → Option (List ℕ)) (faults : W → ℕ) (old new : W) (IsWhole : List ℕ → Type 0) (whole : List ℕ) (is : IsWhole whole) where
  -- a beginning, since the writer failed
  pub delivers_failed : (result : Result T Ended) → TakesBeginning (taken old) (taken new) whole → faults new ≡ faults old + 1 → result ≡ Err WriteFailed → Delivers taken faults old new IsWhole result
  delivers_failed result beginning failed ended = rw ended (record {
    output = tt;
    beginning = record { whole = whole; is_whole = is; beginning = beginning };
    fault = λ late. omega (arith, failed);
    sound = tt;
  })

  -- all of it
  pub delivers_all : (x : T) → Appends (taken old) (taken new) whole → faults new ≡ faults old → Delivers taken faults old new IsWhole (Ok x)
  delivers_all x all sound = record {
    output = record { whole = whole; is_whole = is; taken = all };
    beginning = tt;
    fault = λ late. absurd cc;
    sound = sound;
  }

-- where all viewers were started whose blocks come last, each answers the query on the keeper's board
pub all_begun : {manner : Manner} {k : Editions} {watches : List Watch} {onlookers : OnlookersValue} (viewing : Viewing) → viewing.showing ≡ Last → Attend manner viewing (Some k) Begun watches onlookers →
    AllByRecursion (IsStarted manner viewing k) watches × (length watches ≡ viewing.viewers)
all_begun viewing last (begun shown many all) = (all, many)
all_begun viewing last (sent shown are) = absurd (let late = sym last ∙ shown in cc)

-- the same of those who show theirs as they come
pub all_sent : {manner : Manner} {k : Editions} {watches : List Watch} {onlookers : OnlookersValue} (viewing : Viewing) → viewing.showing ≡ AsTheyCome → Attend manner viewing (Some k) Begun watches onlookers →
    AreOnlooking manner viewing k onlookers
all_sent viewing coming (begun shown many all) = absurd (let late = sym shown ∙ coming in cc)
all_sent viewing coming (sent shown are) = are

-- what they have still to show
turns_sent : (showing : Showing) (viewing : Viewing) (onlookers : OnlookersValue) → showing ≡ AsTheyCome → turns_by showing viewing Begun onlookers ≡ turns_in onlookers
turns_sent Last viewing onlookers coming = absurd cc
turns_sent AsTheyCome viewing onlookers coming = refl

-- the tails of a run that asks for viewers
module _ (hash : Cell → ℕ) (givens : Givens) (on : OnRefusal) (before : Lines) (turns : List Turn) where
  rest_undeclared : (showing : Showing) (viewing : Viewing) → declared givens before ≡ None → IsRestIn showing hash givens on viewing before [] turns Through (viewers_refused givens.manner.form NoTable)
  rest_undeclared Last viewing none = record { first = []; second = viewers_refused givens.manner.form NoTable; is_first = no_line; is_second = undeclared none; joined = refl }
  rest_undeclared AsTheyCome viewing none = lines_end (no_table none)

  -- what comes last, or as it comes
  rest_of_last : (showing : Showing) (viewing : Viewing) (bytes : List ℕ) → showing ≡ Last → IsTailBehind givens viewing before bytes → IsRestIn showing hash givens on viewing before [] turns Through bytes
  rest_of_last Last viewing bytes last is = record { first = []; second = bytes; is_first = no_line; is_second = is; joined = refl }
  rest_of_last AsTheyCome viewing bytes last is = absurd cc

  rest_of_coming : (showing : Showing) (viewing : Viewing) (bytes : List ℕ) → showing ≡ AsTheyCome → AreBlocksBeside hash givens on viewing before [] turns Through bytes → IsRestIn showing hash givens on viewing before [] turns Through bytes
  rest_of_coming Last viewing bytes coming are = absurd cc
  rest_of_coming AsTheyCome viewing bytes coming are = are

  rest_turned : (showing : Showing) (viewing : Viewing) (t : Table) (fault : Refused) → declared givens before ≡ Some t → Says t [] viewing.query (Err fault) → IsRestIn showing hash givens on viewing before [] turns Through (viewers_refused givens.manner.form fault)
  rest_turned Last viewing t fault is says = record { first = []; second = viewers_refused givens.manner.form fault; is_first = no_line; is_second = turned_away is says; joined = refl }
  rest_turned AsTheyCome viewing t fault is says = lines_end (refused_query is says)

  module _ {W T : Type 0} (taken : W → Option (List ℕ)) (faults : W → ℕ) (old new : W) (result : Result T Ended) (viewing : Viewing) where
    pub delivers_undeclared : (asked : Option Viewing) (desk : Option Editions) → asked ≡ Some viewing → desk ≡ None → IsBehind givens before desk →
        Delivers taken faults old new (λ bytes. bytes ≡ viewers_refused givens.manner.form NoTable) result → Delivers taken faults old new (IsRest hash givens on asked before [] turns Through) result
    delivers_undeclared asked desk same none stands d =
        rw same (delivers_as taken faults old new _ _ result
        (λ bytes is. subst (IsRestIn viewing.showing hash givens on viewing before [] turns Through) (sym is) (rest_undeclared viewing.showing viewing (subst (IsBehind givens before) none stands))) d)

    pub delivers_turned : (asked : Option Viewing) (k : Editions) (stage : Stage) (watches : List Watch) (onlookers : OnlookersValue) (fault : Refused) → asked ≡ Some viewing → stage ≡ Turned fault → HasAttended givens.manner asked (Some k) stage watches onlookers →
        IsBehind givens before (Some k) → Delivers taken faults old new (λ bytes. bytes ≡ viewers_refused givens.manner.form fault) result → Delivers taken faults old new (IsRest hash givens on asked before [] turns Through) result
    delivers_turned asked k stage watches onlookers fault same is has stands d =
        rw same (delivers_as taken faults old new _ _ result
        (λ bytes text. subst (IsRestIn viewing.showing hash givens on viewing before [] turns Through) (sym text) (rest_turned viewing.showing viewing (keeper.schema k) fault stands.schema (refused (rw (same, is) at has.attend)))) d) where
          refused : {watches : List Watch} {onlookers : OnlookersValue} → Attend givens.manner viewing (Some k) (Turned fault) watches onlookers → Says (keeper.schema k) [] viewing.query (Err fault)
          refused (turned says) = says

    pub delivers_viewed : (k : Editions) (watches : List Watch) (onlookers : OnlookersValue) → viewing.showing ≡ Last → HasAttended givens.manner (Some viewing) (Some k) Begun watches onlookers → Keeps givens before k →
        Delivers taken faults old new (AreViewers givens.manner (keeper.schema k) (editions givens before) (keeper.edition k) viewing 1 (length watches)) result →
        Delivers taken faults old new (IsRest hash givens on (Some viewing) before [] turns Through) result
    delivers_viewed k watches onlookers last has stands d =
        delivers_as taken faults old new _ _ result
        (λ bytes are. rest_of_last viewing.showing viewing bytes last
        (viewed stands.schema (subst (λ n. AreViewers givens.manner (keeper.schema k) (editions givens before) n viewing 1 viewing.viewers bytes) stands.edition
        (subst (λ n. AreViewers givens.manner (keeper.schema k) (editions givens before) (keeper.edition k) viewing 1 n bytes) (all_begun viewing last has.attend).1 are))))
        d

    -- those who show their blocks as they come
    pub delivers_coming : (onlookers : OnlookersValue) → viewing.showing ≡ AsTheyCome → turns ≡ turns_of (Some viewing) Begun onlookers →
        Delivers taken faults old new (AreBlocksBeside hash givens on viewing before [] (turns_in onlookers) Through) result → Delivers taken faults old new (IsRest hash givens on (Some viewing) before [] turns Through) result
    delivers_coming onlookers coming are d =
        let listed : turns ≡ turns_in onlookers = are ∙ turns_sent viewing.showing viewing onlookers coming in
        delivers_as taken faults old new _ _ result
        (λ bytes are. rest_of_coming viewing.showing viewing bytes coming (subst (λ ts. AreBlocksBeside hash givens on viewing before [] ts Through bytes) (sym listed) are)) d

-- a run that asks for viewers, which all were started
pub attended_at : {manner : Manner} (asked : Option Viewing) (viewing : Viewing) (k : Editions) (stage : Stage) (watches : List Watch) (onlookers : OnlookersValue) → asked ≡ Some viewing → stage ≡ Begun →
    HasAttended manner asked (Some k) stage watches onlookers → HasAttended manner (Some viewing) (Some k) Begun watches onlookers
attended_at {manner = manner} asked viewing k stage watches onlookers same is has =
    subst (λ st. HasAttended manner (Some viewing) (Some k) st watches onlookers) is (subst (λ a. HasAttended manner a (Some k) stage watches onlookers) same has)

module _ {W T : Type 0} (hash : Cell → ℕ) (givens : Givens) (on : OnRefusal) (before : Lines) (taken : W → Option (List ℕ)) (faults : W → ℕ) (old new : W) (result : Result T Ended) (viewing : Viewing) where
  pub delivers_at : (asked : Option Viewing) (stage : Stage) (onlookers : OnlookersValue) → asked ≡ Some viewing → stage ≡ Begun →
      Delivers taken faults old new (IsRest hash givens on (Some viewing) before [] (turns_of (Some viewing) Begun onlookers) Through) result →
      Delivers taken faults old new (IsRest hash givens on asked before [] (turns_of asked stage onlookers) Through) result
  delivers_at asked stage onlookers same is d = rw (same, is) d

-- one that asks for none
pub delivers_none : {W T : Type 0} (hash : Cell → ℕ) (givens : Givens) (on : OnRefusal) (before : Lines) (turns : List Turn) (taken : W → Option (List ℕ)) (faults : W → ℕ) (writer : W) (x : T) (asked : Option Viewing) → asked ≡ None →
    Delivers taken faults writer writer (IsRest hash givens on asked before [] turns Through) (Ok x)
delivers_none hash givens on before turns taken faults writer x asked none = rw none (record {
  output = record { whole = []; is_whole = record { first = []; second = []; is_first = no_line; is_second = refl; joined = refl }; taken = Appends-nil (taken writer) };
  beginning = tt;
  fault = λ late. absurd cc;
  sound = refl;
})

-- one viewer more was started
pub started_more : (manner : Manner) (viewing : Viewing) (k : Editions) (watches : List Watch) (number : ℕ) (viewer : Known) (question : Question) → AllByRecursion (IsStarted manner viewing k) watches →
    viewer.board ≡ keeper.board k → viewer.schema ≡ keeper.schema k → IsAskedSo manner (keeper.schema k) viewing.query question →
    AllByRecursion (IsStarted manner viewing k) (watches ++ watch_from number viewer question viewing.shots ∷ [])
started_more manner viewing k watches number viewer question all board schema asked = all_more (IsStarted manner viewing k) watches (watch_from number viewer question viewing.shots) all (record {
  board = board;
  schema = schema;
  asked = asked;
  none = refl;
  count = refl;
})

-- blocks that a viewer might have
pub some_blocks_of : (manner : Manner) (givens : Givens) (before : Lines) (k : Editions) (viewing : Viewing) (plan : PlanTree) → Keeps givens before k → MeansPlan (keeper.schema k) viewing.query plan → (viewer : ℕ) →
    (bytes : List ℕ) × AreViews manner (keeper.schema k) (editions givens before) viewing.query (keeper.edition k) viewer 0 viewing.shots bytes
some_blocks_of manner givens before k viewing plan keeps means viewer =
    rw keeps.edition (some_views manner (keeper.schema k) (editions givens before) (edition givens before) viewing (some_view manner givens before (keeper.schema k) viewing plan means) viewer 0 viewing.shots (omega arith))
