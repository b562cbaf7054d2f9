-- A session: one table that is open while lines come, each of which is answered before the next one is heard. The lines
-- before a line stand with the last one first.
use Rattle.std.specs.Prelude.{◌≡◌, ◌⊎◌, ◌+◌, ◌-◌, ◌^◌, ◌&&◌, ℕ, Bool, true, false, List, [], ◌∷◌, ◌++◌, length, min, nat_lt, not, if◌then◌else◌, Option, Some, None, Result, Ok, Err, MatchResult}
use Rattle.board.specs.Editions.{Editions}
use Rattle.cells.specs.Values.{Table}
use Rattle.cells.specs.declared.cell.Cell.{Cell}
use Rattle.cells.specs.declared.refused.Refused.{Refused as Fault}
use Rattle.cells.specs.declared.refused.Refused.TheVariants.{Limit, NoTable, QuerySyntax}
use Rattle.script.specs.Desks.{IsBehind}
use Rattle.script.specs.Givens.{Givens}
use Rattle.script.specs.Limits.{script_limit}
use Rattle.script.specs.Output.{IsBlock, declared, published}
use Rattle.script.specs.Says.{Answer, IsWant, Says, Values, shown}
use Rattle.script.specs.Spelling.{refusal}
use Rattle.script.specs.Stops.{IsRefusedLine}
use Rattle.script.specs.declared.ended.Ended.{Ended}
use Rattle.script.specs.declared.fault.Fault.TheVariants.{Line}
use Rattle.script.specs.declared.heard.Heard.{Heard}
use Rattle.script.specs.declared.heard.Heard.TheVariants.{Accepted, Refused}

-- the greatest number of a line
abbrev pub line_limit : ℕ
line_limit = 2 ^ 64 - 1

-- the number of the line that comes after these, counted from 1: it stays at the greatest one
abbrev pub next_number : List (List ℕ) → ℕ
next_number before = min (length before + 1) line_limit

-- a line that comes after these is heard: there is a number for it, and it is no longer than a script may be
abbrev pub is_heard : List (List ℕ) → List ℕ → Bool
is_heard before line = nat_lt (length before) line_limit && not (nat_lt script_limit (length line))

-- the lines as they count: one that is not heard counts as an empty one
abbrev pub counted : List (List ℕ) → List (List ℕ)
counted [] = []
counted (line ∷ before) = (if is_heard before line then line else []) ∷ counted before

-- the bytes are the reply to a line: its block, or a refusal where it is not heard
pub data IsReply (hash : Cell → ℕ) (givens : Givens) (before : List (List ℕ)) (line bytes : List ℕ) : Type 0 where
  heard : is_heard before line ≡ true → IsBlock hash givens (counted before) line bytes → IsReply hash givens before line bytes
  not_heard : is_heard before line ≡ false → bytes ≡ refusal givens.manner.form (next_number before) (Line Limit) → IsReply hash givens before line bytes

-- the line is refused after these: as a line of a script, or since it is not heard
pub data IsRefusedAfter (givens : Givens) (before : List (List ℕ)) (line : List ℕ) : Type 0 where
  refused_heard : is_heard before line ≡ true → IsRefusedLine givens (counted before) line → IsRefusedAfter givens before line
  refused_unheard : is_heard before line ≡ false → IsRefusedAfter givens before line

-- what a query says after these lines, as it is told: that no table is declared yet, or its first fault for the table, or its
-- answer over the rows that stand published
pub data SaysAfter (givens : Givens) (before : List (List ℕ)) (query : List ℕ) : Result Values Fault → Type 0 where
  no_table : declared givens (counted before) ≡ None → SaysAfter givens before query (Err NoTable)
  faulty : {t : Table} {fault : Fault} → declared givens (counted before) ≡ Some t → Says t (published givens (counted before)) query (Err fault) → SaysAfter givens before query (Err fault)
  answered : {t : Table} {said : Answer} → declared givens (counted before) ≡ Some t → Says t (published givens (counted before)) query (Ok said) → SaysAfter givens before query (Ok (shown givens.manner said))

-- what a session answers: what the query says; or a want
abbrev pub AnswersAfter : Givens → List (List ℕ) → List ℕ → Result Values Fault → Type 0
AnswersAfter givens before query result = MatchResult result (λ values. SaysAfter givens before query (Ok values)) (λ e. IsWant e ⊎ SaysAfter givens before query (Err e))

-- the same of a query whose parameters are filled so: it is bad syntax where they can't be
abbrev pub AnswersFilled : Givens → List (List ℕ) → Option (List ℕ) → Result Values Fault → Type 0
AnswersFilled givens before None result = MatchResult result (λ values. ⊥) (λ e. IsWant e ⊎ (e ≡ QuerySyntax))
AnswersFilled givens before (Some query) result = AnswersAfter givens before query result

-- the bytes are the replies to these lines, one after another
pub data AreReplies (hash : Cell → ℕ) (givens : Givens) : List (List ℕ) → List ℕ → Type 0 where
  no_line : AreReplies hash givens [] []
  last_line : {before : List (List ℕ)} {line : List ℕ} (bytes reply : List ℕ) →
      AreReplies hash givens before bytes → IsReply hash givens before line reply →
      AreReplies hash givens (line ∷ before) (bytes ++ reply)

-- a session: what it was given, the lines that came, and why it has ended, where it has
pub record Hearing : Type 0 where
  pub givens : Givens
  pub lines : List (List ℕ)
  pub ended : Option Ended

-- one before its first line
abbrev pub unheard : Givens → Hearing
unheard givens = record { givens = givens; lines = []; ended = None }

-- a session after one line more
abbrev pub with_line : Hearing → List ℕ → Hearing
with_line session line = record { givens = session.givens; lines = line ∷ session.lines; ended = session.ended }

-- one that has ended for this
abbrev pub ended_by : Hearing → Ended → Hearing
ended_by session why = record { givens = session.givens; lines = session.lines; ended = Some why }

-- the line was refused
abbrev pub was_refused : Heard → Bool
was_refused Accepted = false
was_refused Refused = true

-- a desk is where these lines have left it, of which the last has this number
pub record StandsBehind (givens : Givens) (lines : List (List ℕ)) (desk : Option Editions) (number : ℕ) : Type 0 where
  pub behind : IsBehind givens (counted lines) desk
  pub number_is : number ≡ min (length lines) line_limit
