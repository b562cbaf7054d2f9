-- What is left with a writer, from what its parts say.
use Rattle.std.proofs.Common.{◌≡◌, ◌⊎◌, ℕ, Bool, List, Option, arith, false, inl, inr, true}
use Rattle.std.proofs.Common.{subst}
use Rattle.std.specs.Io.KnownBytes.{Keeps}
use Rattle.clap.specs.Kinds.{Kinds}
use Rattle.clap.specs.Words.{HasKind, IsAmong, Text, fault_of, kind_of}
use Rattle.clap.specs.declared.error.Error.{Error}
use Rattle.clap.specs.declared.error.kind.ErrorKind.TheVariants.{DisplayHelp, DisplayVersion}
use Rattle.command.specs.CommandLine.{olap}
use Rattle.command.specs.Jobs.{ExplainsFault, IsHelp}
use Rattle.command.specs.SessionWords.{ExplainsSessionFault, session}
use Rattle.command.specs.ShardWords.{ExplainsShardFault, shard_app}
use Rattle.command.specs.declared.job.WordsFault.{WordsFault}
use Rattle.command.specs.declared.job.WordsFault.TheVariants.{Clap, Naming, NoScript, OutOfRange}
use Rattle.script.specs.Endings.{BeginsToWrite, Writes}
use Rattle.script.specs.Stops.{HoweverFinished}
use Rattle.script.specs.declared.finish.Finish.{Finish}
use Rattle.script.specs.declared.finish.Finish.TheVariants.{Stopped, Through}
use Rattle.olap.specs.Endings.{Ends, HelpsOr}

-- what was written is so, since what it was said to be is
pub writes_as : (Is IsWhole : List ℕ → Type 0) (a b : Option (List ℕ)) → ((whole : List ℕ) → Is whole → IsWhole whole) → Writes Is a b → Writes IsWhole a b
writes_as Is IsWhole a b so w = record { whole = w.whole; is_whole = so w.whole w.is_whole; taken = w.taken }

pub begins_as : (Is IsWhole : List ℕ → Type 0) (a b : Option (List ℕ)) → ((whole : List ℕ) → Is whole → IsWhole whole) → BeginsToWrite Is a b → BeginsToWrite IsWhole a b
begins_as Is IsWhole a b so w = record { whole = w.whole; is_whole = so w.whole w.is_whole; beginning = w.beginning }

-- however it was finished
pub however_as : (Is Other : Finish → List ℕ → Type 0) → ((finish : Finish) (whole : List ℕ) → Is finish whole → Other finish whole) → (whole : List ℕ) → HoweverFinished Is whole → HoweverFinished Other whole
however_as Is Other so whole w = record { finish = w.finish; is = so w.finish whole w.is }

module _ (status : ℕ) (old new : Option (List ℕ)) (waiting : List ℕ) where
  pub ends_as : (Is Other : Finish → List ℕ → Type 0) (Begun More : List ℕ → Type 0) (Served Serves : Bool → Type 0) → ((finish : Finish) (whole : List ℕ) → Is finish whole → Other finish whole) →
      ((whole : List ℕ) → Begun whole → More whole) → ((served : Bool) → Served served → Serves served) → Ends Is Begun Served status old new waiting → Ends Other More Serves status old new waiting
  ends_as Is Other Begun More Served Serves so begun serves ends = record {
    written = λ zero. writes_as (Is Through) (Other Through) old new (so Through) (ends.written zero);
    served = λ zero. serves true (ends.served zero);
    stopped = λ one. elim (ends.stopped one) [
      | inl wrote ↦ inl (writes_as (Is Stopped) (Other Stopped) old new (so Stopped) wrote)
      | inr both ↦ inr (writes_as (Is Through) (Other Through) old new (so Through) both.0, serves false both.1)
    ];
    flushed = ends.flushed;
    nothing = ends.nothing;
    beginning = λ three. begins_as Begun More old new begun (ends.beginning three);
  }

  -- words that are refused, or ask for help
  pub unless_help : (Help : Type 0) (Is : Finish → List ℕ → Type 0) (Begun : List ℕ → Type 0) (Served : Bool → Type 0) → (status ≡ 0) ⊎ ((status ≡ 2) ⊎ (status ≡ 3)) → (status ≡ 0 → Help) →
      (status ≡ 3 → Help) → (status ≡ 2 → Keeps old new) → HelpsOr Help status (Ends Is Begun Served status old new waiting)
  unless_help Help Is Begun Served (inl zero) shown unshown nothing = inl (shown zero, inl zero)
  unless_help Help Is Begun Served (inr (inr three)) shown unshown nothing = inl (unshown three, inr three)
  unless_help Help Is Begun Served (inr (inl two)) shown unshown nothing = inr (record {
    written = λ zero. absurd (omega (arith, zero, two));
    served = λ zero. absurd (omega (arith, zero, two));
    stopped = λ one. absurd (omega (arith, one, two));
    flushed = λ some. elim some [
      | inl zero ↦ absurd (omega (arith, zero, two))
      | inr one ↦ absurd (omega (arith, one, two))
    ];
    nothing = nothing;
    beginning = λ three. absurd (omega (arith, three, two));
  })

-- ---- a fault that shows help, which the words ask for

abbrev pub Asked : Kinds → Type 0
Asked kinds = IsAmong DisplayHelp kinds ⊎ IsAmong DisplayVersion kinds

help_among : (kinds : Kinds) (e : Error) → HasKind kinds e → (kind_of e ≡ DisplayHelp) ⊎ (kind_of e ≡ DisplayVersion) → Asked kinds
help_among kinds e (inl memory) (inl help) = absurd cc
help_among kinds e (inl memory) (inr version) = absurd cc
help_among kinds e (inr among) (inl help) = inl (subst (λ k. IsAmong k kinds) help among)
help_among kinds e (inr among) (inr version) = inr (subst (λ k. IsAmong k kinds) version among)

pub help_of_run : (words : List Text) (fault : WordsFault) → ExplainsFault words fault → IsHelp fault → Asked (fault_of olap words)
help_of_run words (Clap e) why help = help_among _ e why help
help_of_run words (OutOfRange it) why help = absurd help
help_of_run words (Naming fault) why help = absurd help
help_of_run words NoScript why help = absurd help

pub help_of_session : (words : List Text) (fault : WordsFault) → ExplainsSessionFault words fault → IsHelp fault → Asked (fault_of session words)
help_of_session words (Clap e) why help = help_among _ e why help
help_of_session words (OutOfRange it) why help = absurd help
help_of_session words (Naming fault) why help = absurd help
help_of_session words NoScript why help = absurd help

pub help_of_shard : (words : List Text) (fault : WordsFault) → ExplainsShardFault words fault → IsHelp fault → Asked (fault_of shard_app words)
help_of_shard words (Clap e) why help = help_among _ e why help
help_of_shard words (OutOfRange it) why help = absurd help
help_of_shard words (Naming fault) why help = absurd help
help_of_shard words NoScript why help = absurd help
