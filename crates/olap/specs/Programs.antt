-- What the program does with its words, its files and its standard input.
use Rattle.std.specs.Prelude.{◌≡◌, ◌⊎◌, ℕ, Bool, true, List, [], Option, None, Some, map}
use Rattle.std.specs.Io.KnownBytes.{Keeps}
use Rattle.clap.specs.Words.{IsAmong, Text, fault_of}
use Rattle.clap.specs.declared.error.kind.ErrorKind.TheVariants.{DisplayHelp, DisplayVersion}
use Rattle.forms.specs.declared.form.Form.TheVariants.{Classic}
use Rattle.script.specs.Endings.{BeginsToWrite, Writes}
use Rattle.script.specs.Givens.{givens_in}
use Rattle.script.specs.Hows.{default_hash, default_settings, hash_of_choice}
use Rattle.script.specs.Manners.{in_form}
use Rattle.script.specs.Output.{IsOutput}
use Rattle.script.specs.Stops.{HoweverFinished}
use Rattle.script.specs.Tails.{Viewing}
use Rattle.script.specs.Viewers.{IsRunBy}
use Rattle.script.specs.declared.finish.Finish.{Finish}
use Rattle.script.specs.declared.on_refusal.OnRefusal.{OnRefusal}
use Rattle.script.specs.declared.on_refusal.OnRefusal.TheVariants.{GoesOn, Stops}
use Rattle.reasons.specs.Books.{declared_in, lines_in}
use Rattle.olap.specs.Answering.{Answers}
use Rattle.command.specs.CommandLine.{olap}
use Rattle.olap.specs.Endings.{Ends, HelpsOr}
use Rattle.olap.specs.Folders.{AreTold, Tells}
use Rattle.command.specs.Jobs.{Ask}
use Rattle.command.specs.Naming.{resolved}
use Rattle.olap.specs.declared.input.Input.{Input}
use Rattle.command.specs.declared.job.Job.{Job}

-- the words ask for help or for the version
abbrev pub AskForHelp : List Text → Type 0
AskForHelp words = IsAmong DisplayHelp (fault_of olap words) ⊎ IsAmong DisplayVersion (fault_of olap words)

-- this is what is run of a job whose files hold what is told: its script, in which numbers stand for the names of parts, and its parts
pub record IsInputOf (file : Text → Option (List ℕ)) (job : Job) (input : Input) : Type 0 where
  pub script : List ℕ
  pub script_told : Tells (file job.script) script
  pub resolved : input.script.items ≡ resolved job.names.items script
  pub parts_told : AreTold file job.parts.items (map (λ part. part.items) input.parts.items)

-- this is the output of a job over what was read for it
abbrev pub IsRunOf : Job → Input → Finish → List ℕ → Type 0
IsRunOf job input = IsRunBy job.on_refusal (hash_of_choice job.hash) (givens_in (in_form job.form) job.how.rows input.parts.items) job.live input.script.items

-- this is the output of a job that is so finished
pub record IsOutputOfJob (file : Text → Option (List ℕ)) (job : Job) (finish : Finish) (whole : List ℕ) : Type 0 where
  pub input : Input
  pub is_input : IsInputOf file job input
  pub is_output : IsRunOf job input finish whole

-- the words ask for a run over these files, and this is its output where it is so finished
pub record AskToWrite (file : Text → Option (List ℕ)) (words : List Text) (finish : Finish) (whole : List ℕ) : Type 0 where
  pub job : Job
  pub asked : Ask words job
  pub output : IsOutputOfJob file job finish whole

-- whether the table that a script declares answers the query of its viewers, where it has some
abbrev pub Serves : Option Viewing → List ℕ → Bool → Type 0
Serves None script served = served ≡ true
Serves (Some viewing) script served = Answers (declared_in (lines_in script)) viewing.query served

-- that is asked of a strict run alone
abbrev pub ServesBy : OnRefusal → Option Viewing → List ℕ → Bool → Type 0
ServesBy GoesOn asked script served = served ≡ true
ServesBy Stops asked script served = Serves asked script served

-- the same of a job whose files hold what is told
pub record JobServes (file : Text → Option (List ℕ)) (job : Job) (served : Bool) : Type 0 where
  pub input : Input
  pub is_input : IsInputOf file job input
  pub is_served : ServesBy job.on_refusal job.live input.script.items served

-- the words ask for a run over these files, and whether that serves its viewers
pub record AskToServe (file : Text → Option (List ℕ)) (words : List Text) (served : Bool) : Type 0 where
  pub job : Job
  pub asked : Ask words job
  pub serves : JobServes file job served

-- this is the output of the script that standard input holds, with the defaults and no parts
pub record IsOutputOf (input : Option (List ℕ)) (whole : List ℕ) : Type 0 where
  pub script : List ℕ
  pub script_told : Tells input script
  pub is_output : IsOutput (hash_of_choice default_hash) (record { manner = in_form Classic; limit = default_settings.rows; parts = [] }) script whole

-- the words ask for help, or for a run over these files, which so ends
abbrev pub EndsAsRun : (Text → Option (List ℕ)) → List Text → ℕ → Option (List ℕ) → Option (List ℕ) → List ℕ → Type 0
EndsAsRun file words status old new waiting =
    HelpsOr (AskForHelp words) status (Ends (AskToWrite file words) (HoweverFinished (AskToWrite file words)) (AskToServe file words) status old new waiting)

-- the run of the script that standard input holds so ends
pub record EndsAsScript (input : Option (List ℕ)) (status : ℕ) (old new : Option (List ℕ)) (waiting : List ℕ) : Type 0 where
  pub known : (status ≡ 0) ⊎ ((status ≡ 2) ⊎ (status ≡ 3))
  pub written : status ≡ 0 → Writes (IsOutputOf input) old new
  pub flushed : status ≡ 0 → waiting ≡ []
  pub nothing : status ≡ 2 → Keeps old new
  pub beginning : status ≡ 3 → BeginsToWrite (IsOutputOf input) old new
