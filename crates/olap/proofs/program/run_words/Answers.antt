use Rattle.std.proofs.Common.{inr, map, string_bytes, ℕ, List, Option}
use Rattle.clap.specs.Words.{Text}
use Rattle.olap.specs.Programs.{AskForHelp, AskToServe, AskToWrite, IsOutputOfJob, JobServes}
use Rattle.script.specs.Stops.{HoweverFinished}
use Rattle.olap.proofs.EndingsLemmas.{ends_as, help_of_run, however_as, unless_help}
use Rattle.olap.proofs.ProgramLemmas.{asked}
use Rattle.olap.proofs.program.run_words.Goals as goal

pub returns-in-Ok-clause-ends : goal.returns-in-Ok-clause-ends
returns-in-Ok-clause-ends g c =
    let words : List Text = map string_bytes c.args.given.now in
    let file : List ℕ → Option (List ℕ) = g.F.Folder.file c.args.folder.now in
    let so = asked file words c.in-Ok.job c.in-Ok.ensures.job in
    inr (ends_as _ _ _ _ (IsOutputOfJob file c.in-Ok.job) (AskToWrite file words) (HoweverFinished (IsOutputOfJob file c.in-Ok.job)) (HoweverFinished (AskToWrite file words))
    (JobServes file c.in-Ok.job) (AskToServe file words) so (however_as (IsOutputOfJob file c.in-Ok.job) (AskToWrite file words) so)
    (λ served serves. record { job = c.in-Ok.job; asked = c.in-Ok.ensures.job; serves = serves }) c.run_job.ensures.ends)

pub returns-in-Err-clause-ends : goal.returns-in-Err-clause-ends
returns-in-Err-clause-ends g c =
    let words : List Text = map string_bytes c.args.given.now in
    unless_help _ _ _ _ (AskForHelp words) _ _ _ c.refuse.ensures.status (λ zero. help_of_run words c.in-Err.fault c.in-Err.ensures.fault (c.refuse.ensures.only zero))
    (λ three. help_of_run words c.in-Err.fault c.in-Err.ensures.fault (c.refuse.ensures.only_early three)) c.refuse.ensures.nothing
