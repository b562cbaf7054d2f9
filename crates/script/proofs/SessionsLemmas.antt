-- Where the lines of a session have left it, and what it wrote.
use Rattle.std.proofs.Common.{◌≡◌, ◌∙◌, ◌+◌, ◌<◌, ◌≤◌, ℕ, suc, Bool, true, false, cond, Option, Some, None, Result, Ok, Err, List, [], ◌∷◌, ◌++◌, inl, inr, length, reverse, refl, sym, ap, ap₂, subst, append_assoc, arith}
use Rattle.std.proofs.lemmas.Bool.{cases_lt, lt-ltb, ltb-true}
use Rattle.std.proofs.lemmas.Bool.Decides.{nat_tests}
use Rattle.std.proofs.lemmas.List.{append-nil, length-reverse, reverse-reverse}
use Rattle.std.specs.List.{AllByRecursion}
use Rattle.std.specs.Prelude.{◌&&◌, min, nat_lt, not}
use Rattle.std.specs.Str.Lines.{lines}
use Rattle.board.specs.Editions.{Editions}
use Rattle.board.specs.Editions as keeper
use Rattle.cells.specs.declared.cell.Cell.{Cell}
use Rattle.cells.specs.declared.refused.Refused.{Refused as Fault}
use Rattle.cells.specs.declared.refused.Refused.TheVariants.{Limit, NoTable}
use Rattle.report.specs.Laws.{takes_nothing}
use Rattle.report.specs.Waiting.{WritesAll}
use Rattle.report.specs.declared.unwritten.Unwritten.{Unwritten}
use Rattle.report.specs.declared.unwritten.Unwritten.TheVariants as unwritten
use Rattle.report.specs.declared.want.Want.{Want}
use Rattle.report.specs.declared.want.Want.TheVariants as want
use Rattle.script.specs.Blocks.{Foretells, IsAsked, Steps, is_refused}
use Rattle.script.specs.Desks.{IsBehind, Publishable, schema_of_desk}
use Rattle.script.specs.Endings.{BeginsToWrite, Ends, HasWorkers, ended_for, ended_unwritten}
use Rattle.script.specs.Deeds.{deed}
use Rattle.script.specs.Givens.{Givens}
use Rattle.script.specs.Limits.{part_limit, script_limit}
use Rattle.script.specs.Output.{AreBlocks, IsBlock, IsOutput, Lines, deed_behind, line_first, no_line, of_lines, published}
use Rattle.script.specs.Says.{GivesValues, Values}
use Rattle.script.specs.Sessions.{AnswersAfter, AreReplies, IsRefusedAfter, IsReply, SaysAfter, StandsBehind, answered, counted, faulty, no_table, heard, is_heard, line_limit, next_number, not_heard, refused_heard, refused_unheard, last_line as last_reply, no_line as no_reply}
use Rattle.script.specs.Spelling.{refusal}
use Rattle.script.specs.Stops.{IsRefusedLine, Tells}
use Rattle.script.specs.declared.block.Block.{Block}
use Rattle.script.specs.declared.ended.Ended.{Ended}
use Rattle.script.specs.declared.fault.Fault.TheVariants.{Line}
use Rattle.script.proofs.BlocksLemmas.{reversed_onto, some_answer}
use Rattle.script.proofs.EndingsLemmas.{ends_for, ends_unwritten}
use Rattle.script.proofs.ProgressLemmas.{delivers_whole, edition-le, length-lines, narrow_lines}
use Rattle.script.proofs.SaysLemmas.{EachAnswered}
use Rattle.script.proofs.StepsLemmas.{does_so, executes_nothing, left_published}

-- ---- which lines are heard

both : (a b : Bool) → (a && b) ≡ true → (a ≡ true) × (b ≡ true)
both true true h = (refl, refl)
both true false h = absurd cc
both false b h = absurd cc

not_less : (m n : ℕ) → not (nat_lt m n) ≡ true → n ≤ m
not_less m n h = grind (arith, nat_tests)

less_not : (m n : ℕ) → n ≤ m → nat_lt m n ≡ false
less_not m n within = grind (arith, nat_tests)

-- there is a number for it, and it is not too long
pub heard_small : (before : Lines) (line : List ℕ) → is_heard before line ≡ true → (length before < line_limit) × (length line ≤ script_limit)
heard_small before line h =
    let parts = both (nat_lt (length before) line_limit) (not (nat_lt script_limit (length line))) h in
    (ltb-true (length before) line_limit parts.0, not_less script_limit (length line) parts.1)

small_heard : (before : Lines) (line : List ℕ) → length before < line_limit → length line ≤ script_limit → is_heard before line ≡ true
small_heard before line few short = ap₂ (λ a b. a && not b) (lt-ltb (length before) line_limit few) (less_not script_limit (length line) short)

pub none_heard : (before : Lines) (line : List ℕ) (number : ℕ) → number ≡ min (length before) line_limit → number ≡ line_limit → false ≡ is_heard before line
none_heard before line number is last = sym (ap (λ a. a && not (nat_lt script_limit (length line))) (less_not (length before) line_limit (omega (arith, is, last))))

pub heard_by_length : (before : Lines) (line : List ℕ) (number : ℕ) → number ≡ min (length before) line_limit → (number ≡ line_limit → ⊥) → not (nat_lt script_limit (length line)) ≡ is_heard before line
heard_by_length before line number is more =
    sym (ap (λ a. a && not (nat_lt script_limit (length line))) (lt-ltb (length before) line_limit (elim (cases_lt (length before) line_limit) [ inl few ↦ few | inr many ↦ absurd (more (omega (arith, is, many))) ])))

pub length-counted : (ls : Lines) → length (counted ls) ≡ length ls
length-counted [] = refl
length-counted (line ∷ before) = ap suc (length-counted before)

-- ---- each line has one reply

pub some_reply : EachAnswered → (hash : Cell → ℕ) (givens : Givens) (before : Lines) (line : List ℕ) → (bytes : List ℕ) × IsReply hash givens before line bytes
some_reply each hash givens before line = go (is_heard before line) refl where
  go : (b : Bool) → is_heard before line ≡ b → (bytes : List ℕ) × IsReply hash givens before line bytes
  go true h = let (bytes, is) = some_answer each hash givens (counted before) (deed_behind givens (counted before) line) in (bytes, heard h is)
  go false h = (refusal givens.manner.form (next_number before) (Line Limit), not_heard h refl)

-- ---- a line that is heard

-- it is told right whether it is refused after these, where that is told of it in a script
pub told_after : (givens : Givens) (before : Lines) (line : List ℕ) → is_heard before line ≡ true → (refused : Bool) → Tells refused (IsRefusedLine givens (counted before) line) → Tells refused (IsRefusedAfter givens before line)
told_after givens before line h true is = refused_heard h is
told_after givens before line h false accepted = not_after where
  not_after : IsRefusedAfter givens before line → ⊥
  not_after (refused_heard k is) = accepted is
  not_after (refused_unheard k) = absurd cc

-- a session stands behind it, where it leaves the desk so
pub stands_more : (givens : Givens) (before : Lines) (line : List ℕ) (desk after : Option Editions) (number : ℕ) → StandsBehind givens before desk number → is_heard before line ≡ true →
    ((earlier : Lines) → IsBehind givens earlier desk → IsBehind givens (line ∷ earlier) after) →
    (there : Option Editions) (ls : Lines) (last : ℕ) → there ≡ after → ls ≡ line ∷ before → last ≡ min (number + 1) line_limit → StandsBehind givens ls there last
stands_more givens before line desk after number stands h leaves there ls last same are is =
    subst (λ d. StandsBehind givens ls d last) (sym same) (subst (λ l. StandsBehind givens l after last) (sym are) (record {
      behind = subst (λ l. IsBehind givens l after) (ap (λ b. (cond b line []) ∷ counted before) (sym h)) (leaves (counted before) stands.behind);
      number_is = omega (arith, is, stands.number_is);
    }))

module _ (givens : Givens) (before : Lines) (line : List ℕ) (desk : Option Editions) (number next : ℕ) (stands : StandsBehind givens before desk number) (h : is_heard before line ≡ true) (next_is : next ≡ min (number + 1) line_limit) where
  -- a keeper may publish once more
  pub may_publish : Publishable desk
  may_publish = go desk stands.behind where
    go : (there : Option Editions) → IsBehind givens (counted before) there → Publishable there
    go None behind = tt
    go (Some k) behind = omega (arith, behind.edition, edition-le givens (counted before), length-counted before, (heard_small before line h).0)

  numbers : next ≡ length (counted before) + 1
  numbers = omega (arith, next_is, stands.number_is, length-counted before, (heard_small before line h).0)

  module _ {H : Type 0} (hash : Cell → ℕ) (after : Option Editions) (block : Block H) (steps : Steps hash givens line next desk after block) where
    -- what its block will be
    pub told : Foretells (IsBlock hash givens (counted before) line) (IsRefusedLine givens (counted before) line) block
    told = steps.foretells (counted before) stands.behind numbers

    pub told_reply : IsReply hash givens before line told.text
    told_reply = heard h told.is

    -- where it has workers
    pub has_workers : IsAsked block → HasWorkers (deed_behind givens (counted before) line)
    has_workers asked = subst HasWorkers (sym (does_so givens (counted before) line desk (deed (schema_of_desk desk) line) stands.behind refl)) (steps.asks asked)

    -- it is told whether it was refused
    pub told_so : (refused : Bool) → refused ≡ is_refused block → Tells refused (IsRefusedAfter givens before line)
    told_so refused same = subst (λ b. Tells b (IsRefusedAfter givens before line)) (sym same) (told_after givens before line h (is_refused block) told.tells)

    -- a session stands behind it
    pub stands_heard : (there : Option Editions) (ls : Lines) (last : ℕ) → there ≡ after → ls ≡ line ∷ before → last ≡ min (number + 1) line_limit → StandsBehind givens ls there last
    stands_heard there ls last same are is = stands_more givens before line desk after number stands h steps.stands there ls last same are is

  -- one that wants a worker before it gives a block has workers
  pub wants_worker : HasWorkers (deed (schema_of_desk desk) line) → HasWorkers (deed_behind givens (counted before) line)
  wants_worker has = subst HasWorkers (sym (does_so givens (counted before) line desk (deed (schema_of_desk desk) line) stands.behind refl)) has

-- ---- a line that is not

pub stands_unheard : (givens : Givens) (before : Lines) (line : List ℕ) (desk : Option Editions) (number : ℕ) → StandsBehind givens before desk number → is_heard before line ≡ false →
    (there : Option Editions) (ls : Lines) (last : ℕ) → there ≡ desk → ls ≡ line ∷ before → last ≡ min (number + 1) line_limit → StandsBehind givens ls there last
stands_unheard givens before line desk number stands h there ls last same are is =
    subst (λ d. StandsBehind givens ls d last) (sym same) (subst (λ l. StandsBehind givens l desk last) (sym are) (record {
      behind = subst (λ l. IsBehind givens l desk) (ap (λ b. (cond b line []) ∷ counted before) (sym h))
          ((executes_nothing (λ cell. 0) givens [] 0 desk [] refl refl).stands (counted before) stands.behind);
      number_is = omega (arith, is, stands.number_is);
    }))

-- its reply is a refusal
pub unheard_reply : (hash : Cell → ℕ) (givens : Givens) (before : Lines) (line text : List ℕ) (desk : Option Editions) (number next : ℕ) → StandsBehind givens before desk number → is_heard before line ≡ false → next ≡ min (number + 1) line_limit →
    text ≡ refusal givens.manner.form next (Line Limit) → IsReply hash givens before line text
unheard_reply hash givens before line text desk number next stands h next_is is =
    not_heard h (is ∙ ap (λ n. refusal givens.manner.form n (Line Limit)) (let same : next ≡ next_number before = omega (arith, next_is, stands.number_is) in same))

-- ---- a query that is answered as values

module _ (givens : Givens) (before : Lines) (query : List ℕ) (number : ℕ) where
  pub answers_untabled : StandsBehind givens before None number → AnswersAfter givens before query (Err NoTable)
  answers_untabled stands = inr (no_table stands.behind)

  pub answers_table : (k : Editions) → StandsBehind givens before (Some k) number → (r : Result Values Fault) → GivesValues givens.manner (keeper.schema k) (keeper.published k) query r → AnswersAfter givens before query r
  answers_table k stands (Ok values) said =
      let rs = published givens (counted before) in
      subst (λ v. SaysAfter givens before query (Ok v)) (sym (said.shown.is rs (left_published givens (counted before)) stands.behind.published)) (answered stands.behind.schema (said.means rs))
  answers_table k stands (Err e) (inl wanting) = inl wanting
  answers_table k stands (Err e) (inr (inl memory)) = inl (inl memory)
  answers_table k stands (Err e) (inr (inr says)) = inr (faulty stands.behind.schema (says (published givens (counted before))))

-- ---- how a reply ends

module _ {W : Type 0} (taken : W → Option (List ℕ)) (faults : W → ℕ) (old new : W) (hash : Cell → ℕ) (givens : Givens) (before : Lines) (line : List ℕ) (Asks : Type 0) where
  -- something was wanted before anything was written
  pub ends_wanting : {T : Type 0} (text : List ℕ) → IsReply hash givens before line text → (e : Ended) (result : Result T Ended) → result ≡ Err e → taken new ≡ taken old → (wanted : Want) → e ≡ ended_for wanted → (wanted ≡ want.Worker → Asks) →
      Ends taken faults old new (IsReply hash givens before line) Asks ⊥ result
  ends_wanting text is_reply e result met same wanted is asks =
      ends_for taken faults old new (IsReply hash givens before line) e result met (subst (BeginsToWrite (IsReply hash givens before line) (taken old)) (sym same) (record { whole = text; is_whole = is_reply; beginning = takes_nothing (taken old) text })) Asks ⊥ wanted is asks

  module _ (text : List ℕ) (is_reply : IsReply hash givens before line text) (Will : List ℕ → Type 0) (will : Will text) where
    -- it was not written whole
    pub ends_unwritten_reply : {S T : Type 0} (why : Unwritten) → WritesAll {T = S} taken faults old new Will (Err why) → (e : Ended) (result : Result T Ended) → result ≡ Err e → e ≡ ended_unwritten why →
        (why ≡ unwritten.Want want.Worker → Asks) → Ends taken faults old new (IsReply hash givens before line) Asks ⊥ result
    ends_unwritten_reply why all e result met is asks =
        ends_unwritten taken faults old new (IsReply hash givens before line) e result met (record { whole = text; is_whole = is_reply; beginning = all.beginning text will }) Asks ⊥ why is (λ late. all.fault (ap Err late)) asks

    -- it was
    pub ends_written : {S T : Type 0} (x : S) → WritesAll {T = S} taken faults old new Will (Ok x) → (y : T) → Ends taken faults old new (IsReply hash givens before line) Asks ⊥ (Ok y)
    ends_written x all y = record {
      delivered = delivers_whole taken faults old new (IsReply hash givens before line) y (record { whole = text; is_whole = is_reply; taken = all.written text will }) all.sound;
      worker = λ late. absurd cc;
      place = λ late. absurd cc;
    }

-- ---- the output of all lines

counted_all : (ls : Lines) → length ls ≤ line_limit → AllByRecursion (λ line. length line ≤ script_limit) ls → counted ls ≡ ls
counted_all [] few narrow = refl
counted_all (line ∷ before) few narrow =
    ap₂ (λ l ls. l ∷ ls) (ap (λ b. cond b line []) (small_heard before line (omega (arith, few)) narrow.0)) (counted_all before (omega (arith, few)) narrow.1)

-- one block more
blocks_more : {hash : Cell → ℕ} {givens : Givens} {before later : Lines} {bytes : List ℕ} (line block : List ℕ) → AreBlocks hash givens before later bytes → IsBlock hash givens (reverse later ++ before) line block →
    AreBlocks hash givens before (later ++ line ∷ []) (bytes ++ block)
blocks_more {hash = hash} {givens = givens} {before = before} line block no_line is = subst (AreBlocks hash givens before (line ∷ [])) (append-nil block) (line_first block [] is no_line)
blocks_more {hash = hash} {givens = givens} {before = before} line block (line_first {later = later} {line = first} bytes rest is_first are) is =
    subst (AreBlocks hash givens before (first ∷ (later ++ line ∷ []))) (sym (append_assoc bytes rest block))
    (line_first bytes (rest ++ block) is_first (blocks_more line block are (subst (λ ls. IsBlock hash givens ls line block) (sym (reversed_onto first later before)) is)))

reply_block : (hash : Cell → ℕ) (givens : Givens) (before : Lines) (line reply : List ℕ) → length before < line_limit → length line ≤ script_limit → counted before ≡ before → IsReply hash givens before line reply → IsBlock hash givens before line reply
reply_block hash givens before line reply few short all (heard h is) = subst (λ ls. IsBlock hash givens ls line reply) all is
reply_block hash givens before line reply few short all (not_heard h is) = absurd (let k = small_heard before line few short in cc)

-- replies to lines of which each is heard are their blocks
replies_are_blocks : {hash : Cell → ℕ} {givens : Givens} {ls : Lines} {bytes : List ℕ} → AreReplies hash givens ls bytes → length ls ≤ line_limit → AllByRecursion (λ line. length line ≤ script_limit) ls → AreBlocks hash givens [] (reverse ls) bytes
replies_are_blocks no_reply few narrow = no_line
replies_are_blocks {hash = hash} {givens = givens} (last_reply {before = before} {line = line} bytes reply are is) few narrow =
    let block = reply_block hash givens before line reply (omega (arith, few)) narrow.0 (counted_all before (omega (arith, few)) narrow.1) is in
    subst (λ ls. AreBlocks hash givens [] ls (bytes ++ reply)) (reversed_onto line before [] ∙ append-nil (reverse (line ∷ before)))
    (blocks_more line reply (replies_are_blocks are (omega (arith, few)) narrow.1)
    (subst (λ ls. IsBlock hash givens ls line reply) (sym (append-nil (reverse (reverse before)) ∙ reverse-reverse before)) block))

all_last : (P : List ℕ → Type 0) (xs : Lines) (y : List ℕ) → AllByRecursion P xs → P y → AllByRecursion P (xs ++ y ∷ [])
all_last P [] y all last = (last, tt)
all_last P (x ∷ xs) y all last = (all.0, all_last P xs y all.1 last)

all_reverse : (P : List ℕ → Type 0) (xs : Lines) → AllByRecursion P xs → AllByRecursion P (reverse xs)
all_reverse P [] all = tt
all_reverse P (x ∷ xs) all = subst (AllByRecursion P) (reversed_onto x xs [] ∙ append-nil (reverse (x ∷ xs))) (all_last P (reverse xs) x (all_reverse P xs all.1) all.0)

-- the replies to the lines of a script are its output
pub output_of_replies : (hash : Cell → ℕ) (givens : Givens) (script bytes : List ℕ) → length script ≤ script_limit → length givens.parts ≤ part_limit → AreReplies hash givens (reverse (lines script)) bytes → IsOutput hash givens script bytes
output_of_replies hash givens script bytes short few are =
    of_lines short few (subst (λ ls. AreBlocks hash givens [] ls bytes) (reverse-reverse (lines script))
    (replies_are_blocks are (omega (arith, short, length-lines script, length-reverse (lines script)))
    (all_reverse (λ line. length line ≤ script_limit) (lines script) (narrow_lines script script_limit short))))
