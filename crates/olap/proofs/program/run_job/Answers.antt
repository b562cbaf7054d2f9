use Rattle.std.proofs.Common.{ℕ, List, Option}
use Rattle.script.specs.Stops.{HoweverFinished}
use Rattle.olap.specs.Programs.{IsOutputOfJob, IsRunOf, JobServes, ServesBy}
use Rattle.olap.proofs.EndingsLemmas.{ends_as, however_as}
use Rattle.olap.proofs.ProgramLemmas.{output_of_job}
use Rattle.olap.proofs.program.run_job.Goals as goal

pub returns-in-Ok-read_named-clause-ends : goal.returns-in-Ok-read_named-clause-ends
returns-in-Ok-read_named-clause-ends g c =
    let file : List ℕ → Option (List ℕ) = g.F.Folder.file c.args.folder.now in
    let job = c.args.job.now in
    let input = c.in-Ok-read_named.input in
    let so = output_of_job file job input c.in-Ok-read_named.ensures.read in
    ends_as _ _ _ _ (IsRunOf job input) (IsOutputOfJob file job) (HoweverFinished (IsRunOf job input)) (HoweverFinished (IsOutputOfJob file job))
    (ServesBy job.on_refusal job.live input.script.items) (JobServes file job) so (however_as (IsRunOf job input) (IsOutputOfJob file job) so)
    (λ served is. record { input = input; is_input = c.in-Ok-read_named.ensures.read; is_served = is }) c.run_served.ensures.ends
