-- How far a run has come.
use Rattle.std.proofs.Common.{◌≡◌, ◌∙◌, ◌⊎◌, ℕ, suc, ◌+◌, ◌-◌, ◌<◌, ◌≤◌, Bool, true, false, cond, Option, Some, None, Result, Ok, Err, List, [], ◌∷◌, ◌++◌, inl, inr, length, map, reverse, refl, sym, ap, subst, take, append_assoc, Bor, arith}
use Rattle.std.proofs.lemmas.List.{append-nil, length-take, map-append, reverse-append, reverse-reverse}
use Rattle.std.proofs.lemmas.List.Splits.{length-slice_split}
use Rattle.std.proofs.lemmas.List.Sums.{count_by-le-length}
use Rattle.std.proofs.KnownBytes.{Appends-nil, Appends-trans}
use Rattle.std.specs.Io.KnownBytes.{Appends}
use Rattle.std.specs.List.{AllByRecursion, onto_first, slice_split}
use Rattle.std.specs.Prelude.{◌==◌, slice_index}
use Rattle.std.specs.Str.Lines.{lines, lines_of_parts, strip_carriage_return}
use Rattle.board.specs.Editions.{Editions}
use Rattle.cells.specs.declared.cell.Cell.{Cell}
use Rattle.script.specs.Blocks.{Foretells, IsAsked, Steps, is_refused}
use Rattle.script.specs.Deeds.{deed}
use Rattle.script.specs.Endings.{AsksForWorkers, BeginsToWrite, Delivers, HasWorkers, Writes}
use Rattle.script.specs.Givens.{Givens, givens}
use Rattle.script.specs.Limits.{script_limit}
use Rattle.script.specs.Output.{IsBlock, deed_behind, edition, is_publish}
use Rattle.script.specs.Stops.{HoweverFinished, IsRefusedLine, StopsAfter, stops}
use Rattle.script.specs.Desks.{Publishable, IsBehind, schema_of_desk}
use Rattle.script.specs.declared.block.Block.{Block}
use Rattle.script.specs.declared.ended.Ended.{Ended}
use Rattle.script.specs.declared.finish.Finish.{Finish}
use Rattle.script.specs.declared.finish.Finish.TheVariants.{Stopped, Through}
use Rattle.script.specs.declared.on_refusal.OnRefusal.{OnRefusal}
use Rattle.script.proofs.BlocksLemmas.{reversed_onto}
use Rattle.script.proofs.SaysLemmas.{EachAnswered, OneAnswer}
use Rattle.script.proofs.StepsLemmas.{does_so}
use Rattle.script.proofs.StopsLemmas.{goes_after, stops_after, stops_or_goes}
use Rattle.report.specs.Laws.{takes_beginning, takes_last, takes_more}
use Rattle.report.specs.Taken.{TakesBeginning, TakesUpTo}
use Rattle.report.specs.Waiting.{Awaits, GoesOn, Waits, text_alone}
use Rattle.report.specs.declared.unwritten.Unwritten.{Unwritten}
use Rattle.report.specs.Onlooking.{OnlookersValue}
use Rattle.script.specs.Turns.{Turn, first_turns}
use Rattle.script.specs.Viewers.{AreLate, AreWritten, GoesOver, IsRest, IsRestAfter, MayShow, turns_before, turns_by, turns_of}
use Rattle.script.specs.Tails.{Viewing}
use Rattle.script.specs.declared.stage.Stage.{Stage}
use Rattle.script.specs.declared.stage.Stage.TheVariants.{Expected}
use Rattle.script.specs.declared.viewing.Showing.{Showing}
use Rattle.script.specs.declared.viewing.Showing.TheVariants.{AsTheyCome, Last}
use Rattle.script.proofs.TurnsLemmas.{edition_grows, first_late, later_still, rest_line, rest_shown, rest_stop, some_end, some_rest}

-- the lines that a loop has gone over, the last one first
abbrev pub last_first : List (Bor (List ℕ)) → List (List ℕ)
last_first yielded = reverse (map (λ line. line.now) yielded)

pub last_first-more : (yielded : List (Bor (List ℕ))) (line : Bor (List ℕ)) → last_first (yielded ++ line ∷ []) ≡ line.now ∷ last_first yielded
last_first-more yielded line = rw (map-append, reverse-append) refl

-- viewers that did not begin yet
turns_at_first : (asked : Option Viewing) (stage : Stage) (onlookers : OnlookersValue) → stage ≡ Expected → turns_of asked stage onlookers ≡ turns_before asked
turns_at_first None stage onlookers expected = refl
turns_at_first (Some viewing) stage onlookers expected = by viewing.showing where
  by : (showing : Showing) → turns_by showing viewing stage onlookers ≡ first_turns viewing
  by Last = refl
  by AsTheyCome = rw expected refl

late_at_first : (asked : Option Viewing) → AreLate 0 (turns_before asked)
late_at_first None = tt
late_at_first (Some viewing) = first_late 0 1 viewing.shots viewing.viewers

-- a text that is put together anew
pieced : (front waiting text middle rest bytes : List ℕ) → waiting ++ text ≡ middle ++ rest → front ++ (waiting ++ (text ++ bytes)) ≡ (front ++ middle) ++ (rest ++ bytes)
pieced front waiting text middle rest bytes is =
    ap (λ t. front ++ t) (sym (append_assoc waiting text bytes) ∙ ap (λ t. t ++ bytes) is ∙ append_assoc middle rest bytes) ∙ sym (append_assoc front middle (rest ++ bytes))

-- the lines before were run, and the rest of the script is to be run: behind what was taken and what waits, what may still be
-- written makes what the run writes; where a report is under way, the script has a line that asked for it
pub record Reached (old new : Option (List ℕ)) (hash : Cell → ℕ) (givens : Givens) (on : OnRefusal) (asked : Option Viewing) (before rest script : List (List ℕ)) (turns : List Turn) (desk : Option Editions) (waits : Waits) (number : ℕ) : Type 0 where
  pub parted : script ≡ reverse before ++ rest
  pub front : List ℕ
  pub taken : Appends old new front
  pub waiting : List ℕ
  pub awaits : Awaits waits waiting
  pub asks : 0 < length waits.reports → AsksForWorkers givens script
  pub blocks : (finish : Finish) (bytes : List ℕ) → IsRest hash givens on asked before rest turns finish bytes → AreWritten hash givens on asked script finish (front ++ (waiting ++ bytes))
  pub late : AreLate (edition givens before) turns
  pub stands : IsBehind givens before desk
  pub number_is : number ≡ length before
  pub short : length before + length rest ≤ script_limit + 1
  pub narrow : AllByRecursion (λ line. length line ≤ script_limit) rest

pub reached_start : (told : Option (List ℕ)) (hash : Cell → ℕ) (givens : Givens) (on : OnRefusal) (asked : Option Viewing) (script : List (List ℕ)) (stage : Stage) (onlookers : OnlookersValue) → stage ≡ Expected →
    length script ≤ script_limit + 1 → AllByRecursion (λ line. length line ≤ script_limit) script →
    Reached told told hash givens on asked [] script script (turns_of asked stage onlookers) None (record { reports = []; after = [] }) 0
reached_start told hash givens on asked script stage onlookers expected short narrow = rw (turns_at_first asked stage onlookers expected) (record {
  parted = refl;
  front = [];
  taken = Appends-nil told;
  waiting = [];
  awaits = text_alone;
  asks = λ some. absurd (omega (arith, some));
  blocks = λ finish bytes are. are;
  late = late_at_first asked;
  stands = refl;
  number_is = refl;
  short = omega arith;
  narrow = narrow;
})

module _ {old new : Option (List ℕ)} {hash : Cell → ℕ} {givens : Givens} {on : OnRefusal} {asked : Option Viewing} {before left script : List (List ℕ)} {turns : List Turn} {desk : Option Editions} {waits : Waits} {number : ℕ}
    (reached : Reached old new hash givens on asked before left script turns desk waits number) where
  -- no line that is left is longer than a script may be
  pub narrow_left : (line : List ℕ) (rest : List (List ℕ)) → left ≡ line ∷ rest → (length line ≤ script_limit) × AllByRecursion (λ l. length l ≤ script_limit) rest
  narrow_left line rest is = subst (AllByRecursion (λ l. length l ≤ script_limit)) is reached.narrow

  -- a line that does this has workers
  pub asks_at : (line : List ℕ) (rest : List (List ℕ)) → left ≡ line ∷ rest → HasWorkers (deed (schema_of_desk desk) line) → AsksForWorkers givens script
  asks_at line rest is workers = record {
    before = before;
    line = line;
    later = rest;
    parted = reached.parted ∙ ap (λ ls. reverse before ++ ls) is;
    has = subst HasWorkers (sym (does_so givens before line desk (deed (schema_of_desk desk) line) reached.stands refl)) workers;
  }

  module _ {H : Type 0} (line : List ℕ) (rest : List (List ℕ)) (after : Option Editions) (block : Block H) (is : left ≡ line ∷ rest) (steps : Steps hash givens line (number + 1) desk after block) where
    -- what the line's block will be
    pub told : Foretells (IsBlock hash givens before line) (IsRefusedLine givens before line) block
    told = steps.foretells before reached.stands (ap (λ n. n + 1) reached.number_is)

    -- it comes next
    next_text : (StopsAfter on (IsRefusedLine givens before line) → ⊥) → (finish : Finish) (bytes : List ℕ) → IsRest hash givens on asked (line ∷ before) rest turns finish bytes →
        AreWritten hash givens on asked script finish (reached.front ++ (reached.waiting ++ (told.text ++ bytes)))
    next_text goes finish bytes are =
        reached.blocks finish (told.text ++ bytes) (subst (λ ls. IsRest hash givens on asked before ls turns finish (told.text ++ bytes)) (sym is) (rest_line hash givens on asked before rest line turns finish told.text bytes told.is goes are))

    -- or it is the last one
    last_text : StopsAfter on (IsRefusedLine givens before line) → AreWritten hash givens on asked script Stopped (reached.front ++ (reached.waiting ++ told.text))
    last_text stop = reached.blocks Stopped told.text (subst (λ ls. IsRest hash givens on asked before ls turns Stopped told.text) (sym is) (rest_stop hash givens on asked before rest line turns told.text told.is stop))

    -- a line whose report, or an earlier one, wants a worker
    pub asked_for_workers : (0 < length waits.reports) ⊎ IsAsked block → AsksForWorkers givens script
    asked_for_workers earlier_or_asked = elim earlier_or_asked [ inl earlier ↦ reached.asks earlier | inr asked ↦ asks_at line rest is (steps.asks asked) ]

    later_turns : AreLate (edition givens (line ∷ before)) turns
    later_turns = later_still (edition givens before) (edition givens (line ∷ before)) turns (edition_grows givens before line) reached.late

    module _ {T : Type 0} (newer : Option (List ℕ)) (newer_waits : Waits) (x : T) (goes_on : GoesOn {T = T} new newer newer_waits (reached.waiting ++ told.text) (Ok x))
        (more : 0 < length newer_waits.reports → (0 < length waits.reports) ⊎ IsAsked block) where
      asked_more : 0 < length newer_waits.reports → AsksForWorkers givens script
      asked_more some = asked_for_workers (more some)

      -- one line more
      pub reached_more : stops on (is_refused block) ≡ false → Reached old newer hash givens on asked (line ∷ before) rest script turns after newer_waits (number + 1)
      reached_more goes =
          let p = goes_on.front.taken in record {
            parted = reached.parted ∙ ap (λ ls. reverse before ++ ls) is ∙ reversed_onto line before rest;
            front = reached.front ++ p.front;
            taken = Appends-trans old new newer reached.front p.front reached.taken p.taken;
            waiting = goes_on.front.rest;
            awaits = goes_on.front.awaits;
            asks = asked_more;
            blocks = λ finish bytes are. subst (AreWritten hash givens on asked script finish)
                (pieced reached.front reached.waiting told.text p.front goes_on.front.rest bytes p.whole_is)
                (next_text (goes_after on (is_refused block) (IsRefusedLine givens before line) goes told.tells) finish bytes are);
            late = later_turns;
            stands = steps.stands before reached.stands;
            number_is = omega (arith, reached.number_is);
            short = omega (arith, reached.short, ap length is);
            narrow = (narrow_left line rest is).1;
          }

      -- the run stops
      pub stopped : stops on (is_refused block) ≡ true → GoesOver old newer hash givens on asked script turns after newer_waits Stopped
      stopped stop =
          let p = goes_on.front.taken in record {
            front = reached.front ++ p.front;
            taken = Appends-trans old new newer reached.front p.front reached.taken p.taken;
            waiting = goes_on.front.rest;
            awaits = goes_on.front.awaits;
            blocks = λ bytes none. subst (AreWritten hash givens on asked script Stopped)
                (ap (λ t. reached.front ++ t) (p.whole_is ∙ ap (λ t. p.front ++ t) (sym (ap (λ bs. goes_on.front.rest ++ bs) none ∙ append-nil goes_on.front.rest)))
                ∙ sym (append_assoc reached.front p.front (goes_on.front.rest ++ bytes)))
                (last_text (stops_after on (is_refused block) (IsRefusedLine givens before line) stop told.tells));
            late = λ through. absurd cc;
            asks = asked_more;
            stands = λ through. absurd cc;
          }

    -- a beginning of what comes next
    pub reached_beginning : EachAnswered → OneAnswer → (newer : Option (List ℕ)) → TakesBeginning new newer (reached.waiting ++ told.text) → BeginsToWrite (HoweverFinished (AreWritten hash givens on asked script)) old newer
    reached_beginning each law newer beginning = go (stops_or_goes on (is_refused block) (IsRefusedLine givens before line) told.tells) where
      go : StopsAfter on (IsRefusedLine givens before line) ⊎ (StopsAfter on (IsRefusedLine givens before line) → ⊥) → BeginsToWrite (HoweverFinished (AreWritten hash givens on asked script)) old newer
      go (inl stop) =
          let whole = reached.front ++ (reached.waiting ++ told.text) in
          record {
            whole = whole;
            is_whole = record { finish = Stopped; is = last_text stop };
            beginning = takes_last old new newer whole (reached.waiting ++ told.text) (record { front = reached.front; whole_is = refl; taken = reached.taken }) beginning;
          }
      go (inr goes) =
          let some = some_rest each hash givens on law asked turns rest (line ∷ before) later_turns in
          let whole = reached.front ++ (reached.waiting ++ (told.text ++ some.bytes)) in
          record {
            whole = whole;
            is_whole = record { finish = some.finish; is = next_text goes some.finish some.bytes some.are };
            beginning = takes_beginning old new newer whole (reached.waiting ++ told.text) some.bytes
                (record { front = reached.front; whole_is = ap (λ t. reached.front ++ t) (sym (append_assoc reached.waiting told.text some.bytes)); taken = reached.taken }) beginning;
          }

  -- what was written so far
  pub reached_so_far : EachAnswered → OneAnswer → BeginsToWrite (HoweverFinished (AreWritten hash givens on asked script)) old new
  reached_so_far each law =
      let some = some_rest each hash givens on law asked turns left before reached.late in
      record {
        whole = reached.front ++ (reached.waiting ++ some.bytes);
        is_whole = record { finish = some.finish; is = reached.blocks some.finish some.bytes some.are };
        beginning = record { rest = reached.waiting ++ some.bytes; up_to = record { front = reached.front; whole_is = refl; taken = reached.taken } };
      }

  module _ (after_turns : List Turn) (text : List ℕ) (shown : MayShow givens asked before turns after_turns text) (late : AreLate (edition givens before) after_turns) where
    -- blocks of viewers come next
    shown_text : (finish : Finish) (bytes : List ℕ) → IsRest hash givens on asked before left after_turns finish bytes → AreWritten hash givens on asked script finish (reached.front ++ (reached.waiting ++ (text ++ bytes)))
    shown_text finish bytes are = reached.blocks finish (text ++ bytes) (rest_shown hash givens on asked before left turns after_turns finish text bytes shown are)

    -- they wait or were written
    pub reached_shown : {T : Type 0} (newer : Option (List ℕ)) (newer_waits : Waits) (x : T) → GoesOn {T = T} new newer newer_waits (reached.waiting ++ text) (Ok x) → length newer_waits.reports ≡ length waits.reports →
        Reached old newer hash givens on asked before left script after_turns desk newer_waits number
    reached_shown newer newer_waits x goes_on same =
        let p = goes_on.front.taken in record {
          parted = reached.parted;
          front = reached.front ++ p.front;
          taken = Appends-trans old new newer reached.front p.front reached.taken p.taken;
          waiting = goes_on.front.rest;
          awaits = goes_on.front.awaits;
          asks = λ some. reached.asks (omega (arith, some, same));
          blocks = λ finish bytes are. subst (AreWritten hash givens on asked script finish)
              (pieced reached.front reached.waiting text p.front goes_on.front.rest bytes p.whole_is) (shown_text finish bytes are);
          late = late;
          stands = reached.stands;
          number_is = reached.number_is;
          short = reached.short;
          narrow = reached.narrow;
        }

    -- or a beginning of them was
    pub shown_beginning : EachAnswered → OneAnswer → (newer : Option (List ℕ)) → TakesBeginning new newer (reached.waiting ++ text) → BeginsToWrite (HoweverFinished (AreWritten hash givens on asked script)) old newer
    shown_beginning each law newer beginning =
        let some = some_rest each hash givens on law asked after_turns left before late in
        let whole = reached.front ++ (reached.waiting ++ (text ++ some.bytes)) in
        record {
          whole = whole;
          is_whole = record { finish = some.finish; is = shown_text some.finish some.bytes some.are };
          beginning = takes_beginning old new newer whole (reached.waiting ++ text) some.bytes
              (record { front = reached.front; whole_is = ap (λ t. reached.front ++ t) (sym (append_assoc reached.waiting text some.bytes)); taken = reached.taken }) beginning;
        }

  -- no line is left
  pub gone_through : left ≡ [] → GoesOver old new hash givens on asked script turns desk waits Through
  gone_through is =
      let same : reverse script ≡ before = ap reverse (reached.parted ∙ ap (λ ls. reverse before ++ ls) is ∙ append-nil (reverse before)) ∙ reverse-reverse before in
      record {
        front = reached.front;
        taken = reached.taken;
        waiting = reached.waiting;
        awaits = reached.awaits;
        blocks = λ bytes are. reached.blocks Through bytes (subst (λ ls. IsRest hash givens on asked before ls turns Through bytes) (sym is) (subst (λ ls. IsRest hash givens on asked ls [] turns Through bytes) same are));
        late = λ through. subst (λ ls. AreLate (edition givens ls) turns) (sym same) reached.late;
        asks = reached.asks;
        stands = λ through. subst (λ ls. IsBehind givens ls desk) (sym same) reached.stands;
      }

-- ---- one block

-- a call went on with a text, and then another one with what waited
pub goes_on_then : {S T : Type 0} (a b c : Option (List ℕ)) (mid last : Waits) (text : List ℕ) (x : S) (r : Result T Unwritten) → GoesOn {T = S} a b mid text (Ok x) →
    ((rest : List ℕ) → Awaits mid rest → GoesOn b c last rest r) → GoesOn a c last text r
goes_on_then a b c mid last text x (Ok y) first more =
    let f = first.front in
    let on = (more f.rest f.awaits).front in
    record {
      front = record {
        rest = on.rest;
        taken = takes_more a b c text on.taken.front on.rest (subst (TakesUpTo a b text) on.taken.whole_is f.taken) on.taken.taken;
        awaits = on.awaits;
      };
      beginning = tt;
    }
goes_on_then a b c mid last text x (Err e) first more =
    let f = first.front in record { front = tt; beginning = takes_last a b c text f.rest f.taken (more f.rest f.awaits).beginning }

-- ---- behind the lines

some_rest_after : EachAnswered → (hash : Cell → ℕ) (givens : Givens) (on : OnRefusal) (asked : Option Viewing) (before : List (List ℕ)) (turns : List Turn) (finish : Finish) → (finish ≡ Through → AreLate (edition givens before) turns) →
    (bytes : List ℕ) × IsRestAfter hash givens on asked before turns finish bytes
some_rest_after each hash givens on asked before turns Through late = some_end each hash givens on asked before turns (late refl)
some_rest_after each hash givens on asked before turns Stopped late = ([], refl)

module _ {old new : Option (List ℕ)} {hash : Cell → ℕ} {givens : Givens} {on : OnRefusal} {asked : Option Viewing} {script : List (List ℕ)} {turns : List Turn} {desk : Option Editions} {waits : Waits} {finish : Finish} (newer : Option (List ℕ))
    (over : GoesOver old new hash givens on asked script turns desk waits finish) where
  -- what waited was written
  pub waited_written : Appends new newer over.waiting → (bytes : List ℕ) → TakesUpTo old newer (over.front ++ (over.waiting ++ bytes)) bytes
  waited_written last bytes = record {
    front = over.front ++ over.waiting;
    whole_is = sym (append_assoc over.front over.waiting bytes);
    taken = Appends-trans old new newer over.front over.waiting over.taken last;
  }

  -- or a beginning of it
  pub partly_written : EachAnswered → TakesBeginning new newer over.waiting → BeginsToWrite (HoweverFinished (AreWritten hash givens on asked script)) old newer
  partly_written each late =
      let (bytes, is) = some_rest_after each hash givens on asked (reverse script) turns finish over.late in
      let whole = over.front ++ (over.waiting ++ bytes) in
      record {
        whole = whole;
        is_whole = record { finish = finish; is = over.blocks bytes is };
        beginning = takes_beginning old new newer whole over.waiting bytes (record { front = over.front; whole_is = refl; taken = over.taken }) late;
      }

-- ---- how a run ends

module _ {W : Type 0} (taken : W → Option (List ℕ)) (faults : W → ℕ) (old new : W) (IsWhole : List ℕ → Type 0) where
  -- all of it was written
  pub delivers_whole : {T : Type 0} (x : T) → Writes IsWhole (taken old) (taken new) → faults new ≡ faults old → Delivers {T = T} taken faults old new IsWhole (Ok x)
  delivers_whole x whole sound = record { output = whole; beginning = tt; fault = λ e. absurd cc; sound = sound }

  -- what was delivered is so, since what it was said to be is
  pub delivers_as : {T : Type 0} (Is : List ℕ → Type 0) (result : Result T Ended) → ((bytes : List ℕ) → Is bytes → IsWhole bytes) → Delivers taken faults old new Is result → Delivers taken faults old new IsWhole result
  delivers_as Is (Ok x) so d = record {
    output = record { whole = d.output.whole; is_whole = so d.output.whole d.output.is_whole; taken = d.output.taken };
    beginning = tt;
    fault = d.fault;
    sound = d.sound;
  }
  delivers_as Is (Err e) so d = record {
    output = tt;
    beginning = record { whole = d.beginning.whole; is_whole = so d.beginning.whole d.beginning.is_whole; beginning = d.beginning.beginning };
    fault = d.fault;
    sound = tt;
  }

-- ---- numbers stay small

one_more : (b : Bool) (m n : ℕ) → m ≤ n → cond b (m + 1) m ≤ n + 1
one_more true m n h = omega arith
one_more false m n h = omega arith

-- there are no more publishes than lines
pub edition-le : (givens : Givens) (before : List (List ℕ)) → edition givens before ≤ length before
edition-le givens [] = omega arith
edition-le givens (line ∷ before) = let h = one_more (is_publish (deed_behind givens before line)) (edition givens before) (length before) (edition-le givens before) in omega (arith, h)

pub publishable : (givens : Givens) (before : List (List ℕ)) (desk : Option Editions) → IsBehind givens before desk → length before ≤ script_limit + 1 → Publishable desk
publishable givens before None stands short = tt
publishable givens before (Some k) stands short = omega (arith, stands.edition, edition-le givens before, short)

last_part : (b : Bool) (x : List ℕ) → length (cond b [] (x ∷ [])) ≤ 1
last_part true x = omega arith
last_part false x = omega arith

length-lines_of_parts : (parts : List (List ℕ)) → length (lines_of_parts parts) ≤ length parts
length-lines_of_parts [] = omega arith
length-lines_of_parts (x ∷ []) = last_part (length x == 0) x
length-lines_of_parts (x ∷ y ∷ more) = omega (arith, length-lines_of_parts (y ∷ more))

-- there are no more lines than bytes and one
pub length-lines : (bs : List ℕ) → length (lines bs) ≤ length bs + 1
length-lines bs = omega (arith, length-lines_of_parts (slice_split (λ b. b == 10) bs), length-slice_split (λ b. b == 10) bs, count_by-le-length (λ b. b == 10) bs)

-- nor is a line longer than its script
narrower : (n m : ℕ) (parts : List (List ℕ)) → n ≤ m → AllByRecursion (λ l. length l ≤ n) parts → AllByRecursion (λ l. length l ≤ m) parts
narrower n m [] more narrow = tt
narrower n m (l ∷ parts) more narrow = (omega (arith, more, narrow.0), narrower n m parts more narrow.1)

narrow_onto : (x n : ℕ) (parts : List (List ℕ)) → AllByRecursion (λ l. length l ≤ n) parts → AllByRecursion (λ l. length l ≤ suc n) (onto_first x parts)
narrow_onto x n [] narrow = (omega arith, tt)
narrow_onto x n (l ∷ parts) narrow = (omega (arith, narrow.0), narrower n (suc n) parts (omega arith) narrow.1)

narrow_more : (b : Bool) (x n : ℕ) (parts : List (List ℕ)) → AllByRecursion (λ l. length l ≤ n) parts → AllByRecursion (λ l. length l ≤ suc n) (cond b ([] ∷ parts) (onto_first x parts))
narrow_more true x n parts narrow = (omega arith, narrower n (suc n) parts (omega arith) narrow)
narrow_more false x n parts narrow = narrow_onto x n parts narrow

narrow_parts : (p : ℕ → Bool) (xs : List ℕ) → AllByRecursion (λ l. length l ≤ length xs) (slice_split p xs)
narrow_parts p [] = (omega arith, tt)
narrow_parts p (x ∷ xs) = narrow_more (p x) x (length xs) (slice_split p xs) (narrow_parts p xs)

stripped : (l : List ℕ) → length (strip_carriage_return l) ≤ length l
stripped l = either (slice_index l (length l - 1) == 13) where
  either : (b : Bool) → length (cond b (take (length l - 1) l) l) ≤ length l
  either true = let taken = length-take (length l - 1) l in omega (arith, taken)
  either false = omega arith

narrow_of_parts : (n : ℕ) (parts : List (List ℕ)) → AllByRecursion (λ l. length l ≤ n) parts → AllByRecursion (λ l. length l ≤ n) (lines_of_parts parts)
narrow_of_parts n [] narrow = tt
narrow_of_parts n (x ∷ []) narrow = either (length x == 0) where
  either : (b : Bool) → AllByRecursion (λ l. length l ≤ n) (cond b [] (x ∷ []))
  either true = tt
  either false = narrow
narrow_of_parts n (x ∷ y ∷ more) narrow = (let less = stripped x in omega (arith, less, narrow.0), narrow_of_parts n (y ∷ more) narrow.1)

pub narrow_lines : (bs : List ℕ) (n : ℕ) → length bs ≤ n → AllByRecursion (λ l. length l ≤ n) (lines bs)
narrow_lines bs n few = narrow_of_parts n (slice_split (λ b. b == 10) bs) (narrower (length bs) n (slice_split (λ b. b == 10) bs) few (narrow_parts (λ b. b == 10) bs))
