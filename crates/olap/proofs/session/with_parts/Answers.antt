use Rattle.std.proofs.Common.{map, ℕ, List, Option}
use Rattle.script.specs.Givens.{Givens}
use Rattle.script.specs.Hows.{hash_of_choice}
use Rattle.script.specs.Manners.{in_form}
use Rattle.olap.specs.Endings.{NoViewers}
use Rattle.olap.specs.Talks.{IsOfJob, IsTalk, IsTalkSoFar}
use Rattle.olap.proofs.EndingsLemmas.{ends_as}
use Rattle.olap.proofs.TalksLemmas.{of_job}
use Rattle.olap.proofs.session.with_parts.Goals as goal

pub returns-clause-ends : goal.returns-clause-ends
returns-clause-ends g c =
    let file : List ℕ → Option (List ℕ) = g.F.Folder.file c.args.folder.now in
    let job = c.args.job.now in
    let input = g.I.Read.remaining c.args.input in
    let parts : List (List ℕ) = map (λ p. p.items) c.in-Ok.parts.items in
    let run : Givens = record { manner = in_form job.form; limit = job.how.rows; parts = parts } in
    let so = of_job file job parts (rw c.as_slice.ensures.value at c.in-Ok.ensures.told) in
    ends_as _ _ _ _ (λ finish. IsTalk input finish (hash_of_choice job.hash) run job.on_refusal) (λ finish. IsOfJob file job (IsTalk input finish))
    (IsTalkSoFar input (hash_of_choice job.hash) run job.on_refusal) (IsOfJob file job (IsTalkSoFar input)) NoViewers NoViewers
    (λ finish. so (IsTalk input finish)) (so (IsTalkSoFar input)) (λ served none. none) (rw (c.of-manner.ensures, c.as_slice-2.ensures.value) at c.hold_job.ensures.ends)
