-- Text that waits to be written behind reports that are under way.
use Rattle.std.specs.Prelude.{◌≡◌, ◌<◌, ℕ, List, [], ◌∷◌, ◌++◌, Option, Result, IsErrOf, OnErr, OnOk}
use Rattle.std.specs.Io.KnownBytes.{Appends}
use Rattle.board.specs.Editions.{Edition}
use Rattle.cells.specs.Tables.{Rows, table}
use Rattle.cells.specs.Updates.{AreLeft}
use Rattle.cells.specs.Values.{RowValue}
use Rattle.report.specs.declared.question.Question.{Question}
use Rattle.report.specs.Reports.{answer_to}
use Rattle.report.specs.Taken.{TakesBeginning, TakesUpTo}
use Rattle.report.specs.declared.backlog.Pending.{Pending}
use Rattle.report.specs.declared.unwritten.Unwritten.{Unwritten}
use Rattle.report.specs.declared.unwritten.Unwritten.TheVariants.{WriteFailed}

-- the text is what is asked of these rows, in whatever order they are listed
pub record IsReportText (rows : Rows) (question : Question) (text : List ℕ) : Type 0 where
  pub is : (rs : List RowValue) → AreLeft rs → rows ≡ table rs → text ≡ answer_to question rs

-- a report under way: the text before it, the edition that it is on, and what it is asked
pub record UnderWay : Type 0 where
  pub before : List ℕ
  pub edition : Edition
  pub question : Question

-- the reports under way, in the order in which they began, and the text behind them
pub record Waits : Type 0 where
  pub reports : List UnderWay
  pub after : List ℕ

-- a text more waits behind all the rest
abbrev pub with_text : Waits → List ℕ → Waits
with_text w text = record { reports = w.reports; after = w.after ++ text }

-- one report more is under way, and what waited behind the others waits before it
abbrev pub with_report : Waits → Edition → Question → Waits
with_report w edition question = record { reports = w.reports ++ record { before = w.after; edition = edition; question = question } ∷ []; after = [] }

-- what is known of a report whose thread was started
abbrev pub under_way : {H : Type 0} → Pending H → UnderWay
under_way p = record { before = p.before.items; edition = p.answer.handle.promise.edition.value; question = p.answer.handle.promise.question.value }

-- the question has this answer on the edition, and no other
abbrev pub HasAnswer : Edition → Question → List ℕ → Type 0
HasAnswer edition question text = (answer : List ℕ) → IsReportText edition.rows question answer → answer ≡ text

-- the text comes of the reports, whatever thread ends first, and then of the text behind them
pub data Comes (after : List ℕ) : List UnderWay → List ℕ → Type 0 where
  text_alone : Comes after [] after
  report_first : {report : UnderWay} {more : List UnderWay} (answer rest : List ℕ) → HasAnswer report.edition report.question answer → Comes after more rest →
      Comes after (report ∷ more) (report.before ++ (answer ++ rest))

-- what waits is this text
abbrev pub Awaits : Waits → List ℕ → Type 0
Awaits waits text = Comes waits.after waits.reports text

-- the text is a heading, and then the one answer of the question on the edition
pub record Heads (heading : List ℕ) (edition : Edition) (question : Question) (text : List ℕ) : Type 0 where
  pub answer : List ℕ
  pub has : HasAnswer edition question answer
  pub joined : text ≡ heading ++ answer

-- the text is what waits, and then more that is so
pub record AwaitsThen (waits : Waits) (IsMore : List ℕ → Type 0) (text : List ℕ) : Type 0 where
  pub waiting : List ℕ
  pub more : List ℕ
  pub awaits : Awaits waits waiting
  pub is_more : IsMore more
  pub joined : text ≡ waiting ++ more

-- the writer took the text up to what waits of it
pub record TakesFront (old new : Option (List ℕ)) (waits : Waits) (text : List ℕ) : Type 0 where
  pub rest : List ℕ
  pub taken : TakesUpTo old new text rest
  pub awaits : Awaits waits rest

-- a call goes on with the text: it writes up to what waits, or ends early behind a beginning
pub record GoesOn {T : Type 0} (old new : Option (List ℕ)) (waits : Waits) (text : List ℕ) (result : Result T Unwritten) : Type 0 where
  pub front : OnOk result (TakesFront old new waits text)
  pub beginning : OnErr result (TakesBeginning old new text)

-- The call goes on with each text that is so, and has no fault more at Ok; it ends for the writer's sake only where the writer failed in the
-- call. `taken` and `faults` are what a writer tells, `old` and `new` the writer before and after.
pub record WritesOn {W T : Type 0} (taken : W → Option (List ℕ)) (faults : W → ℕ) (old new : W) (waits : Waits) (Is : List ℕ → Type 0) (result : Result T Unwritten) : Type 0 where
  pub written : (text : List ℕ) → Is text → GoesOn (taken old) (taken new) waits text result
  pub sound : OnOk result (faults new ≡ faults old)
  pub fault : IsErrOf result WriteFailed → faults old < faults new

-- the same, where it writes all of the text
pub record WritesAll {W T : Type 0} (taken : W → Option (List ℕ)) (faults : W → ℕ) (old new : W) (Is : List ℕ → Type 0) (result : Result T Unwritten) : Type 0 where
  pub written : (text : List ℕ) → Is text → OnOk result (Appends (taken old) (taken new) text)
  pub beginning : (text : List ℕ) → Is text → OnErr result (TakesBeginning (taken old) (taken new) text)
  pub sound : OnOk result (faults new ≡ faults old)
  pub fault : IsErrOf result WriteFailed → faults old < faults new
