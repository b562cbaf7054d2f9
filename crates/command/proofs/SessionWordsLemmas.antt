-- The words of a session, by what `clap` finds in them.
use Rattle.std.proofs.Common.{◌≡◌, refl, subst, true, List, [], Result, Ok, Err}
use Rattle.std.proofs.Common.{inl}
use Rattle.std.specs.Prelude.{IfErr, IfOk}
use Rattle.clap.specs.Words.{App, HasMatchesOf, Row, Text, fault_of, found_of, is_simple, is_simple_and_free, matches_of, rows_of}
use Rattle.clap.specs.declared.error.Error.{Error}
use Rattle.clap.specs.declared.parser.matches.ArgMatches.{ArgMatches}
use Rattle.clap.proofs.OnLiterals.{clap_on_literals}
use Rattle.command.specs.SessionWords.{AskForSession, ExplainsSessionFault, IsFoundIn, IsSessionFault, session}
use Rattle.command.specs.declared.job.WordsFault.{WordsFault}
use Rattle.command.specs.declared.job.WordsFault.TheVariants.{Clap, Naming, NoScript, OutOfRange}
use Rattle.command.specs.declared.session_words.SessionJob.{SessionJob}

pub session-is_simple : is_simple session ≡ true
unfolding clap_on_literals
session-is_simple = refl

pub session-is_simple_and_free : is_simple_and_free session ≡ true
unfolding clap_on_literals
session-is_simple_and_free = refl

-- what `clap` finds is what a simple command has
pub rows_found : (result : Result ArgMatches Error) (a b : App) (words : List Text) → a ≡ b → is_simple b ≡ true → IfOk result (HasMatchesOf a words) →
    IfOk result (λ m. rows_of (found_of m) ≡ matches_of b words)
rows_found (Ok m) a b words same simple found = (subst (λ (x : App). HasMatchesOf x words m) same found simple).0
rows_found (Err e) a b words same simple found = tt

-- what was found is what the words ask for
pub asks_of_found : (words : List Text) (found : List Row) (result : Result SessionJob WordsFault) → fault_of session words ≡ [] → found ≡ matches_of session words →
    IfOk result (IsFoundIn found) → IfOk result (AskForSession words)
asks_of_found words found (Ok job) read same is = record { read = read; found = rw (← same) is }
asks_of_found words found (Err fault) read same is = tt

pub fault_of_found : (words : List Text) (found : List Row) (result : Result SessionJob WordsFault) → fault_of session words ≡ [] → found ≡ matches_of session words →
    IfErr result (IsSessionFault found) → IfErr result (ExplainsSessionFault words)
fault_of_found words found (Ok job) read same why = tt
fault_of_found words found (Err (Clap e)) read same why = inl why
fault_of_found words found (Err (OutOfRange setting)) read same why = (read, rw (← same) why)
fault_of_found words found (Err (Naming fault)) read same why = why
fault_of_found words found (Err NoScript) read same why = why
