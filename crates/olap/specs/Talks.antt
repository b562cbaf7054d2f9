-- What a session writes for the lines of standard input, as they come. The lines before a line stand with the last one first.
use Rattle.std.specs.Prelude.{◌≡◌, ◌⊎◌, ℕ, List, [], ◌∷◌, ◌++◌, reverse, Option, IfSome}
use Rattle.cells.specs.declared.cell.Cell.{Cell}
use Rattle.clap.specs.Words.{IsAmong, Text, fault_of}
use Rattle.clap.specs.declared.error.kind.ErrorKind.TheVariants.{DisplayHelp, DisplayVersion}
use Rattle.script.specs.Givens.{Givens}
use Rattle.script.specs.Hows.{hash_of_choice}
use Rattle.script.specs.Manners.{in_form}
use Rattle.script.specs.Sessions.{IsRefusedAfter, IsReply}
use Rattle.script.specs.Stops.{StopsAfter}
use Rattle.script.specs.declared.finish.Finish.{Finish}
use Rattle.script.specs.declared.finish.Finish.TheVariants.{Stopped, Through}
use Rattle.script.specs.declared.on_refusal.OnRefusal.{OnRefusal}
use Rattle.olap.specs.Endings.{Ends, HelpsOr, NoViewers}
use Rattle.olap.specs.Folders.{AreTold}
use Rattle.olap.specs.Hearing.{lines_heard}
use Rattle.command.specs.SessionWords.{AskForSession, session}
use Rattle.command.specs.declared.session_words.SessionJob.{SessionJob}

-- the bytes are the replies to lines, one after another, of which only the last may be one after which a session stops
pub data AreRepliesUpTo (hash : Cell → ℕ) (givens : Givens) (on : OnRefusal) : List (List ℕ) → Finish → List ℕ → Type 0 where
  no_line : AreRepliesUpTo hash givens on [] Through []
  goes_on : {before : List (List ℕ)} {line : List ℕ} (bytes reply : List ℕ) →
      AreRepliesUpTo hash givens on before Through bytes → IsReply hash givens before line reply → (StopsAfter on (IsRefusedAfter givens before line) → ⊥) →
      AreRepliesUpTo hash givens on (line ∷ before) Through (bytes ++ reply)
  stops : {before : List (List ℕ)} {line : List ℕ} (bytes reply : List ℕ) →
      AreRepliesUpTo hash givens on before Through bytes → IsReply hash givens before line reply → StopsAfter on (IsRefusedAfter givens before line) →
      AreRepliesUpTo hash givens on (line ∷ before) Stopped (bytes ++ reply)

-- standard input holds these lines, the last of which stands first, and later ones
abbrev pub Holds : Option (List ℕ) → List (List ℕ) → List (List ℕ) → Type 0
Holds input before later = IfSome input (λ text. lines_heard text ≡ reverse before ++ later)

-- the bytes are what a session writes that is so finished: where it goes through, all lines of standard input are answered
pub record IsTalk (input : Option (List ℕ)) (finish : Finish) (hash : Cell → ℕ) (givens : Givens) (on : OnRefusal) (bytes : List ℕ) : Type 0 where
  pub lines : List (List ℕ)
  pub later : List (List ℕ)
  pub held : Holds input lines later
  pub all : finish ≡ Through → later ≡ []
  pub replies : AreRepliesUpTo hash givens on lines finish bytes

-- the bytes are the replies to lines, one after another, where a session may go on after each but the last one
pub data AreRepliesSoFar (hash : Cell → ℕ) (givens : Givens) (on : OnRefusal) : List (List ℕ) → List ℕ → Type 0 where
  no_line_so_far : AreRepliesSoFar hash givens on [] []
  last_so_far : {before : List (List ℕ)} {line : List ℕ} (bytes reply : List ℕ) →
      AreRepliesUpTo hash givens on before Through bytes → IsReply hash givens before line reply → AreRepliesSoFar hash givens on (line ∷ before) (bytes ++ reply)

-- the bytes are the replies to the first lines of standard input, however many
pub record IsTalkSoFar (input : Option (List ℕ)) (hash : Cell → ℕ) (givens : Givens) (on : OnRefusal) (bytes : List ℕ) : Type 0 where
  pub lines : List (List ℕ)
  pub later : List (List ℕ)
  pub held : Holds input lines later
  pub replies : AreRepliesSoFar hash givens on lines bytes

-- the bytes are so of a job, whose parts hold what is told
pub record IsOfJob (file : Text → Option (List ℕ)) (job : SessionJob) (Is : (Cell → ℕ) → Givens → OnRefusal → List ℕ → Type 0) (bytes : List ℕ) : Type 0 where
  pub parts : List (List ℕ)
  pub parts_told : AreTold file job.parts.items parts
  pub is : Is (hash_of_choice job.hash) (record { manner = in_form job.form; limit = job.how.rows; parts = parts }) job.on_refusal bytes

-- the words ask for a session over these files, of which the bytes are so
pub record AskToTalk (file : Text → Option (List ℕ)) (words : List Text) (Is : (Cell → ℕ) → Givens → OnRefusal → List ℕ → Type 0) (bytes : List ℕ) : Type 0 where
  pub job : SessionJob
  pub asked : AskForSession words job
  pub is : IsOfJob file job Is bytes

-- the words ask for help of sessions
abbrev pub AskForSessionHelp : List Text → Type 0
AskForSessionHelp words = IsAmong DisplayHelp (fault_of session words) ⊎ IsAmong DisplayVersion (fault_of session words)

-- the words ask for help, or for a session over these files and this input, which so ends
abbrev pub EndsAsTalk : (Text → Option (List ℕ)) → Option (List ℕ) → List Text → ℕ → Option (List ℕ) → Option (List ℕ) → List ℕ → Type 0
EndsAsTalk file input words status old new waiting = HelpsOr (AskForSessionHelp words) status
    (Ends (λ finish. AskToTalk file words (IsTalk input finish)) (AskToTalk file words (IsTalkSoFar input)) NoViewers status old new waiting)
