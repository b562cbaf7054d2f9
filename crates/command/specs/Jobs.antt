-- What the words of the command line ask for, from what `clap` finds in them.
use Rattle.std.specs.Prelude.{◌≡◌, ◌⊎◌, Bool, ℕ, List, [], ◌&&◌, codes, false, true, nat_le, Option, Some, None, option_and_then, unwrap_or, if◌then◌else◌}
use Rattle.std.specs.Option.{option_or}
use Rattle.std.specs.Str.{bytes_eq}
use Rattle.clap.specs.Words.{HasKind, Row, Text, all_of, fault_of, first_of, kind_of, subcommand_of}
use Rattle.clap.specs.declared.error.kind.ErrorKind.TheVariants.{DisplayHelp, DisplayVersion, OutOfMemory}
use Rattle.cells.specs.Integers.{whole_number_of}
use Rattle.forms.specs.Forms.{form_of}
use Rattle.forms.specs.declared.form.Form.{Form}
use Rattle.forms.specs.declared.form.Form.TheVariants.{Classic}
use Rattle.script.specs.Hows.{Settings, default_hash}
use Rattle.script.specs.Limits as limits
use Rattle.script.specs.declared.hash_choice.HashChoice.{HashChoice}
use Rattle.script.specs.declared.hash_choice.HashChoice.TheVariants.{Fnv, Plain}
use Rattle.script.specs.declared.limits.Limits.{Limits}
use Rattle.script.specs.declared.on_refusal.OnRefusal.{OnRefusal}
use Rattle.script.specs.declared.on_refusal.OnRefusal.TheVariants.{GoesOn, Stops}
use Rattle.script.specs.declared.viewing.Showing.{Showing}
use Rattle.script.specs.declared.viewing.Showing.TheVariants.{AsTheyCome, Last}
use Rattle.command.specs.CommandLine.{olap}
use Rattle.command.specs.Naming.{AreNamed, ExplainsNaming}
use Rattle.command.specs.declared.job.Job.{Job}
use Rattle.script.specs.Tails.{Viewing}
use Rattle.command.specs.declared.job.Setting.{Setting}
use Rattle.command.specs.declared.job.Setting.TheVariants.{Workers, Depth, Small, Rows, Hash, Viewers, Shots}
use Rattle.command.specs.declared.job.Setting.TheVariants as setting
use Rattle.command.specs.declared.job.WordsFault.{WordsFault}
use Rattle.command.specs.declared.job.WordsFault.TheVariants.{Clap, OutOfRange, Naming, NoScript}

-- the words are of the subcommand `run`, and `clap` finds this for its options and file names
abbrev pub IsRun : List Text → List Row → Type 0
IsRun words found = subcommand_of olap words ≡ Some (codes "run", found)

-- the words are of the subcommand `live`
abbrev pub IsLive : List Text → List Row → Type 0
IsLive words found = subcommand_of olap words ≡ Some (codes "live", found)

abbrev pub within : Limits → ℕ → Option ℕ
within range n = if nat_le range.least n && nat_le n range.most then Some n else None

-- the number that was found, where digits alone spell it and it lies in the range; the default where nothing was found
abbrev pub number_in : Limits → Option Text → Option ℕ
number_in range None = Some range.default
number_in range (Some t) = option_and_then (within range) (whole_number_of t)

-- the hash of that name
abbrev pub hash_named : Option Text → Option HashChoice
hash_named None = Some default_hash
hash_named (Some t) = if bytes_eq t (codes "fnv") then Some Fnv else (if bytes_eq t (codes "plain") then Some Plain else None)

-- the form of that word
abbrev pub form_named : Option Text → Option Form
form_named None = Some Classic
form_named (Some t) = form_of t

-- what a run does after a refused line, by what was found for `--strict`: a flag that was given is `true`
abbrev pub on_refusal_by : Option Text → OnRefusal
on_refusal_by None = GoesOn
on_refusal_by (Some t) = if bytes_eq t (codes "true") then Stops else GoesOn

-- whether a flag was given, by what was found for it
abbrev pub is_given : Option Text → Bool
is_given None = false
is_given (Some t) = bytes_eq t (codes "true")

abbrev pub explains : List Row → Bool
explains found = is_given (first_of (codes "explain") found)

abbrev pub tells_progress : List Row → Bool
tells_progress found = is_given (first_of (codes "progress") found)

abbrev pub on_refusal : List Row → OnRefusal
on_refusal found = on_refusal_by (first_of (codes "strict") found)

-- each option's value, where it lies in its range
abbrev pub workers : List Row → Option ℕ
workers found = number_in limits.workers (first_of (codes "workers") found)

abbrev pub depth : List Row → Option ℕ
depth found = number_in limits.depth (first_of (codes "depth") found)

abbrev pub small : List Row → Option ℕ
small found = number_in limits.small (first_of (codes "small") found)

abbrev pub most_rows : List Row → Option ℕ
most_rows found = number_in limits.rows (first_of (codes "rows") found)

abbrev pub hash : List Row → Option HashChoice
hash found = hash_named (first_of (codes "hash") found)

abbrev pub form : List Row → Option Form
form found = form_named (first_of (codes "format") found)

abbrev pub viewers : List Row → Option ℕ
viewers found = number_in limits.viewers (first_of (codes "viewers") found)

abbrev pub shots : List Row → Option ℕ
shots found = number_in limits.shots (first_of (codes "shots") found)

-- when viewers' blocks are written, by whether they are to come as they are made
abbrev pub showing_by : Bool → Showing
showing_by true = AsTheyCome
showing_by false = Last

abbrev pub showing : List Row → Showing
showing found = showing_by (is_given (first_of (codes "as-they-come") found))

abbrev pub query : List Row → Option Text
query found = first_of (codes "query") found

-- the file names
abbrev pub script : List Row → Option Text
script found = first_of (codes "SCRIPT") found

abbrev pub parts : List Row → List Text
parts found = unwrap_or (all_of (codes "PART") found) []

-- the values of `--part`
abbrev pub named : List Row → List Text
named found = unwrap_or (all_of (codes "part") found) []

-- the settings are those that were found, each in its range, or the defaults
pub record AreChosen (found : List Row) (how : Settings) (chosen : HashChoice) (spelt : Form) : Type 0 where
  pub workers : workers found ≡ Some how.workers
  pub depth : depth found ≡ Some how.cutting.depth
  pub small : small found ≡ Some how.cutting.small
  pub rows : most_rows found ≡ Some how.rows
  pub hash : hash found ≡ Some chosen
  pub form : form found ≡ Some spelt

-- no option was found, whatever file names were
pub record HasNoOption (found : List Row) : Type 0 where
  pub workers : first_of (codes "workers") found ≡ None
  pub depth : first_of (codes "depth") found ≡ None
  pub small : first_of (codes "small") found ≡ None
  pub rows : first_of (codes "rows") found ≡ None
  pub hash : first_of (codes "hash") found ≡ None
  pub form : first_of (codes "format") found ≡ None

-- the job holds what was found of a run, or the defaults
pub record AsksFor (found : List Row) (job : Job) : Type 0 where
  pub settings : AreChosen found job.how job.hash job.form
  pub on_refusal : on_refusal found ≡ job.on_refusal
  pub explains : explains found ≡ job.explains
  pub tells_progress : tells_progress found ≡ job.tells_progress
  pub script : script found ≡ Some job.script
  pub parts : AreNamed (parts found) (named found) job.parts.items job.names.items

-- it holds what was found of its viewers, each number in its range, or the defaults
pub record AsksViewers (found : List Row) (live : Viewing) : Type 0 where
  pub query : query found ≡ Some live.query
  pub viewers : viewers found ≡ Some live.viewers
  pub shots : shots found ≡ Some live.shots
  pub showing : showing found ≡ live.showing

-- the words ask for this job: a run, or one with viewers
pub data Ask (words : List Text) (job : Job) : Type 0 where
  to_run : {found : List Row} → IsRun words found → AsksFor found job → job.live ≡ None → Ask words job
  to_view : {found : List Row} {live : Viewing} → IsLive words found → AsksFor found job → job.live ≡ Some live → AsksViewers found live → Ask words job

abbrev pub missing : {X : Type 0} → Setting → Option X → Option Setting
missing setting None = Some setting
missing setting (Some x) = None

-- the first option whose value lies outside its range
abbrev pub out_of_range : List Row → Option Setting
out_of_range found = option_or (missing Workers (workers found)) (option_or (missing Depth (depth found))
    (option_or (missing Small (small found)) (option_or (missing Rows (most_rows found)) (option_or (missing Hash (hash found)) (missing setting.Form (form found))))))

-- the same, with viewers
abbrev pub out_of_viewing : List Row → Option Setting
out_of_viewing found = option_or (out_of_range found) (option_or (missing Viewers (viewers found)) (missing Shots (shots found)))

-- the words are those that `clap` reads
abbrev pub AreRead : List Text → Type 0
AreRead words = fault_of olap words ≡ []

-- this is the first option out of its range, of a run, or of one with viewers
pub data AreBeyond (words : List Text) (setting : Setting) : Type 0 where
  run_beyond : {found : List Row} → IsRun words found → out_of_range found ≡ Some setting → AreBeyond words setting
  live_beyond : {found : List Row} → IsLive words found → out_of_viewing found ≡ Some setting → AreBeyond words setting

-- why there is no job of what was found for a run with viewers
abbrev pub IsFaultOfLive : List Row → WordsFault → Type 0
IsFaultOfLive found (Clap e) = kind_of e ≡ OutOfMemory
IsFaultOfLive found (OutOfRange setting) = out_of_viewing found ≡ Some setting
IsFaultOfLive found (Naming fault) = ExplainsNaming fault
IsFaultOfLive found NoScript = ((out_of_range found ≡ None) × (script found ≡ None)) ⊎ ((out_of_viewing found ≡ None) × (query found ≡ None))

-- the words are of neither, or name no script, or no query
pub record HaveNoScript (words : List Text) : Type 0 where
  pub run : (found : List Row) → IsRun words found → (out_of_range found ≡ None) × (script found ≡ None)
  pub live : (found : List Row) → IsLive words found → IsFaultOfLive found NoScript

-- why the words are no job
abbrev pub ExplainsFault : List Text → WordsFault → Type 0
ExplainsFault words (Clap e) = HasKind (fault_of olap words) e
ExplainsFault words (OutOfRange setting) = AreRead words × AreBeyond words setting
ExplainsFault words (Naming fault) = AreRead words × ExplainsNaming fault
ExplainsFault words NoScript = AreRead words × HaveNoScript words

-- why there is no job of what was found for a run
abbrev pub IsFaultOf : List Row → WordsFault → Type 0
IsFaultOf found (Clap e) = kind_of e ≡ OutOfMemory
IsFaultOf found (OutOfRange setting) = out_of_range found ≡ Some setting
IsFaultOf found (Naming fault) = ExplainsNaming fault
IsFaultOf found NoScript = (out_of_range found ≡ None) × (script found ≡ None)

-- why there are no viewers of what was found
abbrev pub IsFaultOfViewers : List Row → WordsFault → Type 0
IsFaultOfViewers found (Clap e) = kind_of e ≡ OutOfMemory
IsFaultOfViewers found (OutOfRange setting) = option_or (missing Viewers (viewers found)) (missing Shots (shots found)) ≡ Some setting
IsFaultOfViewers found (Naming fault) = ⊥
IsFaultOfViewers found NoScript = (option_or (missing Viewers (viewers found)) (missing Shots (shots found)) ≡ None) × (query found ≡ None)

-- there are viewers, and this was found of them
abbrev pub HasViewers : List Row → Option Viewing → Type 0
HasViewers found None = ⊥
HasViewers found (Some live) = AsksViewers found live

-- memory was refused
abbrev pub IsMemory : WordsFault → Type 0
IsMemory (Clap e) = kind_of e ≡ OutOfMemory
IsMemory (OutOfRange setting) = ⊥
IsMemory (Naming fault) = ⊥
IsMemory NoScript = ⊥

-- the words ask for help, whose text is the answer
abbrev pub IsHelp : WordsFault → Type 0
IsHelp (Clap e) = (kind_of e ≡ DisplayHelp) ⊎ (kind_of e ≡ DisplayVersion)
IsHelp (OutOfRange setting) = ⊥
IsHelp (Naming fault) = ⊥
IsHelp NoScript = ⊥
