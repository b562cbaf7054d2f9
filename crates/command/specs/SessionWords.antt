-- What the words after `session` ask for.
use Rattle.std.specs.Prelude.{◌≡◌, List, [], true, Some, codes}
use Rattle.clap.specs.Words.{App, HasKind, Row, Text, fault_of, kind_of, matches_of, new_app, with_rule}
use Rattle.clap.specs.declared.error.kind.ErrorKind.TheVariants.{OutOfMemory}
use Rattle.command.specs.CommandLine.{part_rule, strict_rule, with_settings}
use Rattle.command.specs.Jobs.{AreChosen, on_refusal, out_of_range, parts}
use Rattle.command.specs.declared.job.WordsFault.{WordsFault}
use Rattle.command.specs.declared.job.WordsFault.TheVariants.{Clap, Naming, NoScript, OutOfRange}
use Rattle.command.specs.declared.session_words.SessionJob.{SessionJob}

-- `session`, whose words have no program's name
abbrev pub bare_session : App
bare_session = record { top = record (new_app (codes "session")).top { no_binary_name = true }; subs = [] }

-- `session [--workers N] [--depth D] [--small S] [--hash HASH] [--rows M] [--format FORM] [--strict] [PART]...`
abbrev pub session : App
session = with_rule (with_rule (with_settings bare_session) strict_rule) part_rule

-- the job holds what was found, or the defaults
pub record IsFoundIn (found : List Row) (job : SessionJob) : Type 0 where
  pub settings : AreChosen found job.how job.hash job.form
  pub on_refusal : on_refusal found ≡ job.on_refusal
  pub parts : parts found ≡ job.parts.items

-- the words ask for this session
pub record AskForSession (words : List Text) (job : SessionJob) : Type 0 where
  pub read : fault_of session words ≡ []
  pub found : IsFoundIn (matches_of session words) job

-- why nothing comes of what was found
abbrev pub IsSessionFault : List Row → WordsFault → Type 0
IsSessionFault found (Clap e) = kind_of e ≡ OutOfMemory
IsSessionFault found (OutOfRange setting) = out_of_range found ≡ Some setting
IsSessionFault found (Naming fault) = ⊥
IsSessionFault found NoScript = ⊥

-- why the words ask for no session
abbrev pub ExplainsSessionFault : List Text → WordsFault → Type 0
ExplainsSessionFault words (Clap e) = HasKind (fault_of session words) e
ExplainsSessionFault words (OutOfRange setting) = (fault_of session words ≡ []) × (out_of_range (matches_of session words) ≡ Some setting)
ExplainsSessionFault words (Naming fault) = ⊥
ExplainsSessionFault words NoScript = ⊥
