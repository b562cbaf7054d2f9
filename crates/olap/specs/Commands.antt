-- What the words after the program's name ask for, and what its status says of what was read and written.
use Rattle.std.specs.Prelude.{◌≡◌, ◌⊎◌, ⊤, ◌||◌, ◌==◌, ◌∷◌, ℕ, Bool, false, List, [], Option, None, Some, String, bytes_eq, codes, drop, map, string_bytes, true, if◌then◌else◌}
use Rattle.std.specs.Io.KnownBytes.{Keeps}
use Rattle.std.specs.List.{starts_with}
use Rattle.std.specs.declared.alloc.Global.{Global}
use Rattle.clap.specs.Words.{Text}
use Rattle.questions.specs.Options.{asks_for_help}
use Rattle.script.specs.Endings.{Writes}
use Rattle.olap.specs.Partials.{AskAndLeave, AskForJoinHelp, AskForShardHelp, AskToReplace, AskToSpare, AskToTell}
use Rattle.olap.specs.Programs.{EndsAsRun, EndsAsScript}
use Rattle.olap.specs.Queries.{AskToAnswer, AskToPropose, Leaves}
use Rattle.olap.specs.Talks.{EndsAsTalk}
use Rattle.olap.specs.declared.asked.Asked.{Asked}
use Rattle.olap.specs.declared.asked.Asked.TheVariants as asked

-- ---- what the words ask for

-- what the words ask for: the script that standard input holds, a run, what one shard of a run tells, a join of what shards told, a session,
-- a query of files, the table that is proposed for files, a look for faults, or a page of the manual
pub data Command : Type 0 where
  listens : Command
  runs : Command
  tells : Command
  joins : Command
  talks : Command
  asks : Command
  proposes : Command
  checks : Command
  shows : Command

-- a word is the option of this name, alone or with its value
abbrev pub is_option : Text → Text → Text → Bool
is_option name valued word = bytes_eq word name || starts_with (λ a b. a == b) word valued

-- a word is an option of a shard
abbrev pub is_of_shard : Text → Bool
is_of_shard word = is_option (codes "--shard") (codes "--shard=") word || (is_option (codes "--partials") (codes "--partials=") word || is_option (codes "--own-parts") (codes "--own-parts=") word)

-- one of the words before `--` is one
abbrev pub have_shard : List Text → Bool
have_shard [] = false
have_shard (word ∷ words) = if bytes_eq word (codes "--") then false else (is_of_shard word || have_shard words)

-- `help` of a command that `clap` reads is that of runs
abbrev pub helped : List Text → Command
helped [] = runs
helped (word ∷ []) = if bytes_eq word (codes "run") || (bytes_eq word (codes "live") || bytes_eq word (codes "help")) then runs else shows
helped (word ∷ other ∷ words) = runs

abbrev pub checked : List Text → Command
checked [] = checks
checked (word ∷ words) = if bytes_eq word (codes "--help") || bytes_eq word (codes "-h") then shows else checks

-- the first word says it, where it is no file's name
unfoldable pub command_of : List Text → Command
command_of [] = listens
command_of (word ∷ words) =
    if bytes_eq word (codes "help") then helped words else (
    if bytes_eq word (codes "check") then checked words else (
    if bytes_eq word (codes "query") then asks else (
    if bytes_eq word (codes "schema") then proposes else (
    if bytes_eq word (codes "session") then talks else (
    if bytes_eq word (codes "join") then joins else (
    if bytes_eq word (codes "run") then (if have_shard words then tells else runs) else runs))))))

-- they are the words of this command, of which these are its own
pub record AreOf (words : List Text) (it : Command) (rest : List (String Global)) : Type 0 where
  pub command : command_of words ≡ it
  pub own : drop 1 words ≡ map string_bytes rest

-- this is asked for, if it is no run
abbrev pub AskFor : List Text → Option Asked → Type 0
AskFor words None = command_of words ≡ runs
AskFor words (Some (asked.Page topic)) = command_of words ≡ shows
AskFor words (Some (asked.NoPage word)) = command_of words ≡ shows
AskFor words (Some (asked.Help of)) = command_of words ≡ shows
AskFor words (Some (asked.Check own)) = AreOf words checks own.now
AskFor words (Some (asked.Query own)) = AreOf words asks own.now
AskFor words (Some (asked.Schema own)) = AreOf words proposes own.now
AskFor words (Some (asked.Session own)) = AreOf words talks own.now
AskFor words (Some (asked.Shard own)) = AreOf words tells own.now
AskFor words (Some (asked.Join own)) = AreOf words joins own.now

-- this is asked for by the words after `help`, if it is no run
abbrev pub IsOfHelp : List Text → Option Asked → Type 0
IsOfHelp words None = helped words ≡ runs
IsOfHelp words (Some (asked.Page topic)) = helped words ≡ shows
IsOfHelp words (Some (asked.NoPage word)) = helped words ≡ shows
IsOfHelp words (Some (asked.Help of)) = helped words ≡ shows
IsOfHelp words (Some other) = ⊥

-- and this by the words after `check`
abbrev pub IsOfCheck : List Text → List (String Global) → Asked → Type 0
IsOfCheck words own (asked.Page topic) = checked words ≡ shows
IsOfCheck words own (asked.Check names) = (checked words ≡ checks) × (names.now ≡ own)
IsOfCheck words own other = ⊥

-- ---- what the status says of it, and of a writer before and after, of which so much waits

-- of a shard, which writes to a file: these are those written, those that may be, and whether all stayed
pub record EndsAsShard (file : Text → Option Text) (WasWritten : Text → Text → Type 0) (MayTake : Text → List Text → Type 0) (Stayed : Type 0) (words : List Text) (status : ℕ) (old new : Option Text) (before waiting : Text) : Type 0 where
  pub known : (status ≡ 0) ⊎ ((status ≡ 2) ⊎ (status ≡ 3))
  pub told : status ≡ 0 → AskForShardHelp words ⊎ AskToTell file WasWritten words
  pub nothing : status ≡ 2 → Stayed
  pub spared : Stayed ⊎ AskToSpare MayTake words
  pub silent : AskForShardHelp words ⊎ (new ≡ old)
  pub flushed : status ≡ 0 → before ≡ [] → waiting ≡ []

-- of a join, which writes to a file or to standard output
pub record EndsAsJoin (file : Text → Option Text) (WasWritten : Text → Text → Type 0) (MayTake : Text → List Text → Type 0) (Stayed : Type 0) (words : List Text) (status : ℕ) (old new : Option Text) (before waiting : Text) : Type 0 where
  pub known : (status ≡ 0) ⊎ ((status ≡ 2) ⊎ (status ≡ 3))
  pub left : status ≡ 0 → AskForJoinHelp words ⊎ AskAndLeave file WasWritten (λ IsWhole. Writes IsWhole old new) words
  pub flushed : status ≡ 0 → before ≡ [] → waiting ≡ []
  pub unwritten : status ≡ 2 → Stayed
  pub spared : Stayed ⊎ AskToReplace MayTake words
  pub nothing : status ≡ 2 → Keeps old new

-- of a query of files
abbrev pub EndsAsQuery : (Text → Option Text) → List Text → ℕ → Option Text → Option Text → Text → Type 0
EndsAsQuery file words status old new waiting = (asks_for_help words ≡ true) ⊎ Leaves (AskToAnswer file words) status old new waiting

-- of the table of a file
abbrev pub EndsAsSchema : (Text → Option Text) → List Text → ℕ → Option Text → Option Text → Type 0
EndsAsSchema file words status old new = status ≡ 0 → (asks_for_help words ≡ true) ⊎ Writes (AskToPropose file words) old new

-- of each command that reads or writes data, over these files, this input and these words; of any other nothing is said
abbrev pub EndsAs : Command → (Text → Option Text) → Option Text → (Text → Text → Type 0) → (Text → List Text → Type 0) → Type 0 → List Text → ℕ → Option Text → Option Text → Text → Text → Type 0
EndsAs listens file input WasWritten MayTake Stayed words status old new before waiting = EndsAsScript input status old new waiting
EndsAs runs file input WasWritten MayTake Stayed words status old new before waiting = EndsAsRun file words status old new waiting
EndsAs talks file input WasWritten MayTake Stayed words status old new before waiting = EndsAsTalk file input (drop 1 words) status old new waiting
EndsAs asks file input WasWritten MayTake Stayed words status old new before waiting = EndsAsQuery file (drop 1 words) status old new waiting
EndsAs proposes file input WasWritten MayTake Stayed words status old new before waiting = EndsAsSchema file (drop 1 words) status old new
EndsAs tells file input WasWritten MayTake Stayed words status old new before waiting = EndsAsShard file WasWritten MayTake Stayed (drop 1 words) status old new before waiting
EndsAs joins file input WasWritten MayTake Stayed words status old new before waiting = EndsAsJoin file WasWritten MayTake Stayed (drop 1 words) status old new before waiting
EndsAs other file input WasWritten MayTake Stayed words status old new before waiting = ⊤
