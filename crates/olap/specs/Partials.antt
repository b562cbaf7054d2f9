-- Partial answers in files: what a run over a shard writes, and what is joined of what such runs wrote.
use Rattle.std.specs.Prelude.{◌≡◌, ◌≤◌, ◌⊎◌, ◌∷◌, ℕ, ⊤, List, [], Option, None, Some, IfSome, length, map}
use Rattle.std.specs.List.{AllByRecursion, flat_map}
use Rattle.std.specs.Str.Lines.{lines}
use Rattle.clap.specs.Words.{IsAmong, Text, fault_of}
use Rattle.clap.specs.declared.error.kind.ErrorKind.TheVariants.{DisplayHelp, DisplayVersion}
use Rattle.cells.specs.Hashes.{fnv_hash}
use Rattle.cells.specs.declared.cell.Cell.{Cell}
use Rattle.forms.specs.declared.form.Form.{Form}
use Rattle.loader.specs.Shards.{ShardValue, shard_of}
use Rattle.script.specs.Givens.{Givens}
use Rattle.script.specs.Limits.{part_limit}
use Rattle.script.specs.Manners.{in_form}
use Rattle.script.specs.Output.{IsOutput}
use Rattle.script.specs.Told.{FitAll}
use Rattle.shards.specs.Answers.{HasOwnParts, IsPartialAnswer, Sharding}
use Rattle.shards.specs.Documents.{DocumentValue, IsTextOf}
use Rattle.shards.specs.declared.division.Division.{Division}
use Rattle.shards.specs.declared.division.Division.TheVariants.{Keys, Parts}
use Rattle.olap.specs.Folders.{AreTold, Tells}
use Rattle.olap.specs.Programs.{IsInputOf}
use Rattle.command.specs.ShardWords.{AskForShard, AskToJoin, join_app, shard_app}
use Rattle.olap.specs.declared.input.Input.{Input}
use Rattle.command.specs.declared.shard_words.JoinJob.{JoinJob}
use Rattle.command.specs.declared.shard_words.ShardJob.{ShardJob}

-- which shard a key belongs to is told by this hash, on every machine
abbrev pub shard_hash : Cell → ℕ
shard_hash = fnv_hash

-- shards tell this of the script, over the parts that a run over all rows is given; keys belong to shards so
pub record IsToldOf (sharding : Sharding) (givens : Givens) (script : Text) (it : DocumentValue) : Type 0 where
  pub is_script : it.script ≡ script
  pub told : IsPartialAnswer sharding givens it

-- and this is its text
pub record IsPartialText (sharding : Sharding) (givens : Givens) (script text : Text) : Type 0 where
  pub it : DocumentValue
  pub is_text : IsTextOf it text
  pub told : IsToldOf sharding givens script it

-- ---- `run --shard`

-- the parts that were read
abbrev pub parts_of : Input → List (List ℕ)
parts_of input = map (λ part. part.items) input.parts.items

-- it is what the shard tells of a script: over these parts, where the table is divided by keys, and else over the parts of a run of whose
-- rows it has these parts; no line of the run over all rows is refused for want of room
abbrev pub TellsOfShard : Division → ShardValue → Input → DocumentValue → Type 0
TellsOfShard Keys shard input it = (givens : Givens) → givens.parts ≡ parts_of input → FitAll givens [] (lines input.script.items) → IsPartialAnswer (shard_of shard_hash) givens it
TellsOfShard Parts shard input it = (sharding : Sharding) (givens : Givens) → HasOwnParts sharding givens shard input.script.items (parts_of input) → FitAll givens [] (lines input.script.items) →
    IsPartialAnswer sharding givens it

-- it is the partial answer of the shard
pub record IsShardAnswer (division : Division) (shard : ShardValue) (input : Input) (it : DocumentValue) : Type 0 where
  pub divided : it.division ≡ division
  pub count : it.count ≡ shard.count
  pub numbers : it.numbers ≡ shard.number ∷ []
  pub script : it.script ≡ input.script.items
  pub told : TellsOfShard division shard input it

-- and this is its text
pub record IsShardText (division : Division) (shard : ShardValue) (input : Input) (text : Text) : Type 0 where
  pub it : DocumentValue
  pub is_text : IsTextOf it text
  pub answer : IsShardAnswer division shard input it

-- the text of what the shard tells of these was written
pub record IsTextWritten (WasWritten : Text → Text → Type 0) (job : ShardJob) (input : Input) : Type 0 where
  pub text : Text
  pub is_text : IsShardText job.division job.shard input text
  pub written : WasWritten job.partials text

-- what a job's files hold was read, and what its shard tells was written, so far as it is told what was
pub record IsShardTold (file : Text → Option (List ℕ)) (WasWritten : Text → Text → Type 0) (job : ShardJob) : Type 0 where
  pub input : Input
  pub is_input : IsInputOf file job.run input
  pub text : IsTextWritten WasWritten job input

-- the words ask for a shard of a run over these files, and it was told
pub record AskToTell (file : Text → Option (List ℕ)) (WasWritten : Text → Text → Type 0) (words : List Text) : Type 0 where
  pub job : ShardJob
  pub asked : AskForShard words job
  pub told : IsShardTold file WasWritten job

-- the file that the job names may be written: it takes the place of none that the job reads
pub record IsSpared (MayTake : Text → List Text → Type 0) (job : ShardJob) : Type 0 where
  pub script : MayTake job.partials (job.run.script ∷ [])
  pub parts : MayTake job.partials job.run.parts.items

-- the words ask for a shard whose file may be written
pub record AskToSpare (MayTake : Text → List Text → Type 0) (words : List Text) : Type 0 where
  pub job : ShardJob
  pub asked : AskForShard words job
  pub spared : IsSpared MayTake job

-- the words ask for help of it
abbrev pub AskForShardHelp : List Text → Type 0
AskForShardHelp words = IsAmong DisplayHelp (fault_of shard_app words) ⊎ IsAmong DisplayVersion (fault_of shard_app words)

-- ---- `join`

-- the text holds this partial answer, if it holds one
abbrev pub IsAnswerIn : Text → DocumentValue → Type 0
IsAnswerIn text it = (held : DocumentValue) → IsTextOf held text → it ≡ held

-- the text of a file, so far as it is told what it holds, and what is so of it
pub record OfText (held : Option Text) (Is : Text → Type 0) : Type 0 where
  pub text : Text
  pub told : Tells held text
  pub is : Is text

-- these are the texts of these partial answers
abbrev pub AreTextsOf : List DocumentValue → List Text → Type 0
AreTextsOf [] [] = ⊤
AreTextsOf [] (text ∷ texts) = ⊥
AreTextsOf (it ∷ all) [] = ⊥
AreTextsOf (it ∷ all) (text ∷ texts) = IsTextOf it text × AreTextsOf all texts

-- the numbers of the shards that told these
abbrev pub numbers_of : List DocumentValue → List ℕ
numbers_of = flat_map (λ (it : DocumentValue). it.numbers)

-- what was joined of these texts has the shards of all of them; and where they are partial answers of one script, so is it
pub record IsJointOf (texts : List Text) (it : DocumentValue) : Type 0 where
  pub numbers : (all : List DocumentValue) → AreTextsOf all texts → it.numbers ≡ numbers_of all
  pub told : (sharding : Sharding) (givens : Givens) (script : Text) → AllByRecursion (IsPartialText sharding givens script) texts → IsToldOf sharding givens script it

-- where these texts are partial answers of one script, this is its output, if no line of the run over all rows is refused for want of room
abbrev pub IsJointOutput : Form → List Text → List ℕ → Type 0
IsJointOutput form texts whole = (hash : Cell → ℕ) (sharding : Sharding) (givens : Givens) (script : Text) → givens.manner ≡ in_form form → length givens.parts ≤ part_limit → FitAll givens [] (lines script) →
    AllByRecursion (IsPartialText sharding givens script) texts → IsOutput hash givens script whole

-- the texts of a job's files, so far as it is told what they hold, and what is so of them
pub record OfTexts (file : Text → Option (List ℕ)) (names : List Text) (Is : List Text → Type 0) : Type 0 where
  pub texts : List Text
  pub told : AreTold file names texts
  pub is : Is texts

abbrev pub names : JoinJob → List Text
names job = job.first ∷ job.others.items

-- the bytes are the output of what a job's files hold
abbrev pub IsOutputOfJoin : (Text → Option (List ℕ)) → JoinJob → List ℕ → Type 0
IsOutputOfJoin file job whole = OfTexts file (names job) (λ texts. IsJointOutput job.form texts whole)

-- the text of what was joined of them was written under this name
pub record IsWrittenJoint (WasWritten : Text → Text → Type 0) (name : Text) (texts : List Text) : Type 0 where
  pub it : DocumentValue
  pub text : Text
  pub is_text : IsTextOf it text
  pub joint : IsJointOf texts it
  pub written : WasWritten name text

-- the text of what was joined was written
pub record IsWrittenAs (WasWritten : Text → Type 0) (it : DocumentValue) : Type 0 where
  pub text : Text
  pub is_text : IsTextOf it text
  pub written : WasWritten text

-- the bytes are the output of the script, where its shards have told this, and no line of the run over all rows is refused for want of room
abbrev pub IsOutputOfTold : Form → DocumentValue → List ℕ → Type 0
IsOutputOfTold form it whole = (hash : Cell → ℕ) (sharding : Sharding) (givens : Givens) → givens.manner ≡ in_form form → length givens.parts ≤ part_limit → FitAll givens [] (lines it.script) →
    IsPartialAnswer sharding givens it → IsOutput hash givens it.script whole

-- what a join has left: the writer took its output; or its partial answer was written, where a file of that is named
abbrev pub Leaves : (Text → Option (List ℕ)) → (Text → Text → Type 0) → ((List ℕ → Type 0) → Type 0) → JoinJob → Option Text → Type 0
Leaves file WasWritten Takes job None = Takes (IsOutputOfJoin file job)
Leaves file WasWritten Takes job (Some name) = OfTexts file (names job) (IsWrittenJoint WasWritten name)

-- the words ask for a join of these files, which has left that
pub record AskAndLeave (file : Text → Option (List ℕ)) (WasWritten : Text → Text → Type 0) (Takes : (List ℕ → Type 0) → Type 0) (words : List Text) : Type 0 where
  pub job : JoinJob
  pub asked : AskToJoin words job
  pub leaves : Leaves file WasWritten Takes job job.partials

-- the words ask for a join that is written to a file, which may be written
pub record AskToReplace (MayTake : Text → List Text → Type 0) (words : List Text) : Type 0 where
  pub job : JoinJob
  pub asked : AskToJoin words job
  pub may_take : IfSome job.partials (λ name. MayTake name [])

-- the words ask for help of it
abbrev pub AskForJoinHelp : List Text → Type 0
AskForJoinHelp words = IsAmong DisplayHelp (fault_of join_app words) ⊎ IsAmong DisplayVersion (fault_of join_app words)
