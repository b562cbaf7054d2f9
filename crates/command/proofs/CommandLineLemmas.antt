-- What `clap` tells of the command line: its matches and its faults, exactly.
use Rattle.std.proofs.Common.{ap, arith, inl, length, refl, sym, ℕ, ◌≡◌, ◌∙◌, true, List, [], None, Some, Option, Result, Ok, Err, option_map}
use Rattle.std.specs.Option.{option_map_or}
use Rattle.std.specs.Prelude.{IfErr, IfOk, codes}
use Rattle.clap.specs.Words.{Row, Text, all_of, is_simple, is_simple_and_free, matched_of, raw_values, rows_of}
use Rattle.clap.specs.declared.parser.matches.Found.{Found}
use Rattle.clap.proofs.OnLiterals.{clap_on_literals}
use Rattle.clap.proofs.WalkLemmas.{raw_values-rows}
use Rattle.command.specs.CommandLine.{olap}
use Rattle.command.specs.Jobs.{AreRead, Ask, AsksFor, ExplainsFault, HasViewers, HaveNoScript, IsFaultOf, IsFaultOfLive, IsLive, IsRun, live_beyond, out_of_range, run_beyond, script, to_run, to_view}
use Rattle.command.specs.declared.job.Job.{Job}
use Rattle.script.specs.Tails.{Viewing}
use Rattle.command.specs.declared.job.WordsFault.{WordsFault}
use Rattle.command.specs.declared.job.WordsFault.TheVariants.{Clap, OutOfRange, Naming, NoScript}

pub olap-is_simple : is_simple olap ≡ true
unfolding clap_on_literals
olap-is_simple = refl

pub olap-is_simple_and_free : is_simple_and_free olap ≡ true
unfolding clap_on_literals
olap-is_simple_and_free = refl

-- what a getter gives is what the rows have
pub all_found : (f : Found) (id : Text) (values : Option (List Text)) → values ≡ option_map raw_values (matched_of f id) → values ≡ all_of id (rows_of f)
all_found f id values e = e ∙ raw_values-rows f id

-- the subcommands have names of their own, of three letters and of four
apart : (n m : ℕ) → n ≡ m → n ≡ 3 → m ≡ 4 → ⊥
apart n m same three four = omega arith

not_both : (words : List Text) (found other : List Row) → IsRun words found → IsLive words other → ⊥
not_both words found other is_run is_live =
    let names : codes "run" ≡ codes "live" = ap (λ r. option_map_or (λ p. p.0) r []) (sym is_run ∙ is_live) in
    apart (length (codes "run")) (length (codes "live")) (ap length names) refl refl

-- the words of a run in which no script was found
run_with_no_script : (words : List Text) (found : List Row) → IsRun words found → out_of_range found ≡ None → script found ≡ None → HaveNoScript words
run_with_no_script words found is_run within none = record {
  run = λ other is_other. let same : other ≡ found = ap (λ r. option_map_or (λ p. p.1) r []) (sym is_other ∙ is_run) in rw same (within, none);
  live = λ other is_other. absurd (not_both words found other is_run is_other);
}

-- those of a run with viewers
live_with_no_script : (words : List Text) (found : List Row) → IsLive words found → IsFaultOfLive found NoScript → HaveNoScript words
live_with_no_script words found is_live why = record {
  run = λ other is_other. absurd (not_both words other found is_other is_live);
  live = λ other is_other. let same : other ≡ found = ap (λ r. option_map_or (λ p. p.1) r []) (sym is_other ∙ is_live) in rw same why;
}

-- what was found for a run is what its words ask for
pub asks_of_found : (words : List Text) (found : List Row) (result : Result Job WordsFault) → IsRun words found → IfOk result (AsksFor found) →
    IfOk result (λ job. job.live ≡ None) → IfOk result (Ask words)
asks_of_found words found (Ok job) is_run asks nobody = to_run is_run asks nobody
asks_of_found words found (Err fault) is_run asks nobody = tt

asks_to_view : (words : List Text) (found : List Row) (job : Job) (live : Option Viewing) → job.live ≡ live → IsLive words found → AsksFor found job → HasViewers found live →
    Ask words job
asks_to_view words found job None same is_live asks has = absurd has
asks_to_view words found job (Some live) same is_live asks has = to_view is_live asks same has

-- the same of a run with viewers
pub asks_of_found_live : (words : List Text) (found : List Row) (result : Result Job WordsFault) → IsLive words found → IfOk result (AsksFor found) →
    IfOk result (λ job. HasViewers found job.live) → IfOk result (Ask words)
asks_of_found_live words found (Ok job) is_live asks has = asks_to_view words found job job.live refl is_live asks has
asks_of_found_live words found (Err fault) is_live asks has = tt

pub fault_of_found : (words : List Text) (found : List Row) (result : Result Job WordsFault) → AreRead words → IsRun words found → IfErr result (IsFaultOf found) → IfErr result (ExplainsFault words)
fault_of_found words found (Ok job) read is_run why = tt
fault_of_found words found (Err (Clap e)) read is_run why = inl why
fault_of_found words found (Err (OutOfRange setting)) read is_run why = (read, run_beyond is_run why)
fault_of_found words found (Err (Naming fault)) read is_run why = (read, why)
fault_of_found words found (Err NoScript) read is_run why = (read, run_with_no_script words found is_run why.0 why.1)

pub fault_of_found_live : (words : List Text) (found : List Row) (result : Result Job WordsFault) → AreRead words → IsLive words found → IfErr result (IsFaultOfLive found) →
    IfErr result (ExplainsFault words)
fault_of_found_live words found (Ok job) read is_live why = tt
fault_of_found_live words found (Err (Clap e)) read is_live why = inl why
fault_of_found_live words found (Err (OutOfRange setting)) read is_live why = (read, live_beyond is_live why)
fault_of_found_live words found (Err (Naming fault)) read is_live why = (read, why)
fault_of_found_live words found (Err NoScript) read is_live why = (read, live_with_no_script words found is_live why)
