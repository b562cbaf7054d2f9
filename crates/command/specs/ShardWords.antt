-- What the words of `run --shard` and of `join` ask for.
use Rattle.std.specs.Prelude.{◌≡◌, ◌⊎◌, ◌&&◌, ◌∷◌, ◌==◌, ◌+◌, ℕ, Bool, List, [], false, true, Option, None, Some, codes, drop, nat_le, option_and_then, take, unwrap_or, if◌then◌else◌}
use Rattle.std.specs.List.{position}
use Rattle.std.specs.Option.{option_or}
use Rattle.clap.specs.Lexer.{usize_max}
use Rattle.clap.specs.Words.{App, HasKind, Row, Rule, Text, all_of, fault_of, first_of, kind_of, matches_of, new_app, new_rule, with_rule}
use Rattle.clap.specs.declared.builder.action.ArgAction.TheVariants.{SetTrue}
use Rattle.clap.specs.declared.error.kind.ErrorKind.TheVariants.{OutOfMemory}
use Rattle.cells.specs.Integers.{whole_number_of}
use Rattle.loader.specs.Shards.{ShardValue}
use Rattle.command.specs.CommandLine.{named_rule, option_rule, with_files}
use Rattle.shards.specs.declared.division.Division.{Division}
use Rattle.shards.specs.declared.division.Division.TheVariants.{Keys, Parts}
use Rattle.command.specs.Jobs.{AsksFor, form, is_given, missing, out_of_range, script}
use Rattle.command.specs.Naming.{ExplainsNaming}
use Rattle.command.specs.declared.job.Setting.TheVariants as setting
use Rattle.command.specs.declared.job.WordsFault.{WordsFault}
use Rattle.command.specs.declared.job.WordsFault.TheVariants.{Clap, Naming, NoScript, OutOfRange}
use Rattle.command.specs.declared.shard_words.JoinJob.{JoinJob}
use Rattle.command.specs.declared.shard_words.ShardJob.{ShardJob}

-- a command of this name, whose words have no program's name
abbrev pub bare : Text → App
bare name = record { top = record (new_app name).top { no_binary_name = true }; subs = [] }

-- `--id VALUE`, which must be there
abbrev pub required_rule : Text → Rule
required_rule id = record (option_rule id) { required = true }

-- `--own-parts`, a flag
abbrev pub own_rule : Rule
own_rule = record (new_rule (codes "own-parts")) { long = Some (codes "own-parts"); action = Some SetTrue }

-- `run --shard K/N --partials FILE [--own-parts] [--rows M] [--part NAME=FILE]... SCRIPT [PART]...`
abbrev pub shard_app : App
shard_app = with_files (with_rule (with_rule (with_rule (with_rule (with_rule (bare (codes "run")) (required_rule (codes "shard")))
    (required_rule (codes "partials"))) own_rule) (option_rule (codes "rows"))) named_rule)

-- `PARTIALS...`, of which one must be there
abbrev pub partials_rule : Rule
partials_rule = record (new_rule (codes "PARTIALS")) { required = true; range = Some (record { start_inclusive = 1; end_inclusive = usize_max }) }

-- `join [--format FORM] [--partials FILE] PARTIALS...`
abbrev pub join_app : App
join_app = with_rule (with_rule (with_rule (bare (codes "join")) (option_rule (codes "format"))) (option_rule (codes "partials"))) partials_rule

-- ---- `run --shard`

-- the shard of this number, of so many, where there is one
abbrev pub shard_of_numbers : ℕ → ℕ → Option ShardValue
shard_of_numbers number count = if nat_le 1 number && nat_le number count then Some (record { number = number; count = count }) else None

-- the shard K of N that `K/N` names
abbrev pub shard_named : Text → Option ShardValue
shard_named word = option_and_then (λ at. option_and_then (λ number. option_and_then (shard_of_numbers number) (whole_number_of (drop (at + 1) word))) (whole_number_of (take at word))) (position (λ b. b == 47) word)

abbrev pub shard : List Row → Option ShardValue
shard found = option_and_then shard_named (first_of (codes "shard") found)

abbrev pub partials : List Row → Option Text
partials found = first_of (codes "partials") found

-- the table is divided by parts where the flag was given
abbrev pub division_by : Bool → Division
division_by true = Parts
division_by false = Keys

abbrev pub division : List Row → Division
division found = division_by (is_given (first_of (codes "own-parts") found))

-- the job holds what was found, and else the defaults of a run
pub record AsksForShard (found : List Row) (job : ShardJob) : Type 0 where
  pub run : AsksFor found job.run
  pub shard : shard found ≡ Some job.shard
  pub division : job.division ≡ division found
  pub partials : partials found ≡ Some job.partials

-- the words ask for this shard
pub record AskForShard (words : List Text) (job : ShardJob) : Type 0 where
  pub read : fault_of shard_app words ≡ []
  pub found : AsksForShard (matches_of shard_app words) job

-- why nothing comes of what was found
abbrev pub IsShardFault : List Row → WordsFault → Type 0
IsShardFault found (Clap e) = kind_of e ≡ OutOfMemory
IsShardFault found (OutOfRange it) = option_or (out_of_range found) (missing setting.Shard (shard found)) ≡ Some it
IsShardFault found (Naming fault) = ExplainsNaming fault
IsShardFault found NoScript = (script found ≡ None) ⊎ (partials found ≡ None)

-- why the words ask for no shard
abbrev pub ExplainsShardFault : List Text → WordsFault → Type 0
ExplainsShardFault words (Clap e) = HasKind (fault_of shard_app words) e
ExplainsShardFault words (OutOfRange it) = (fault_of shard_app words ≡ []) × IsShardFault (matches_of shard_app words) (OutOfRange it)
ExplainsShardFault words (Naming fault) = (fault_of shard_app words ≡ []) × IsShardFault (matches_of shard_app words) (Naming fault)
ExplainsShardFault words NoScript = (fault_of shard_app words ≡ []) × IsShardFault (matches_of shard_app words) NoScript

-- ---- `join`

abbrev pub files : List Row → List Text
files found = unwrap_or (all_of (codes "PARTIALS") found) []

-- the job holds what was found; the form is the classic one where none was
pub record AsksToJoin (found : List Row) (job : JoinJob) : Type 0 where
  pub form : form found ≡ Some job.form
  pub partials : partials found ≡ job.partials
  pub files : files found ≡ job.first ∷ job.others.items

-- the words ask for this join
pub record AskToJoin (words : List Text) (job : JoinJob) : Type 0 where
  pub read : fault_of join_app words ≡ []
  pub found : AsksToJoin (matches_of join_app words) job

-- why nothing comes of what was found
abbrev pub IsJoinFault : List Row → WordsFault → Type 0
IsJoinFault found (Clap e) = kind_of e ≡ OutOfMemory
IsJoinFault found (OutOfRange it) = (it ≡ setting.Form) × (form found ≡ None)
IsJoinFault found (Naming fault) = ⊥
IsJoinFault found NoScript = files found ≡ []

-- why the words ask for no join
abbrev pub ExplainsJoinFault : List Text → WordsFault → Type 0
ExplainsJoinFault words (Clap e) = HasKind (fault_of join_app words) e
ExplainsJoinFault words (OutOfRange it) = (fault_of join_app words ≡ []) × IsJoinFault (matches_of join_app words) (OutOfRange it)
ExplainsJoinFault words (Naming fault) = ⊥
ExplainsJoinFault words NoScript = (fault_of join_app words ≡ []) × IsJoinFault (matches_of join_app words) NoScript
