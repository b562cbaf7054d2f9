use Rattle.std.proofs.Common.{ap, ap₂, subst, map, List, ◌≡◌, ◌∙◌}
use Rattle.std.proofs.lemmas.Result.{IfOk-weaker}
use Rattle.clap.specs.Words.{App, FailsBy, Text, app_of, fault_of, is_simple, is_simple_and_free, subcommand_of, with_subcommand}
use Rattle.command.specs.CommandLine.{olap}
use Rattle.command.proofs.CommandLineLemmas.{olap-is_simple, olap-is_simple_and_free}
use Rattle.command.proofs.command_line.matches.Goals as goal

app_is : (c : goal.After-try_get_matches_from) → app_of c.in_ok-command.command ≡ olap
app_is c =
    c.in_ok-command.ensures.shape c.in_ok-live.ensures.local
    ∙ ap₂ with_subcommand
    (c.in_ok-subcommand.ensures.shape c.in_ok-run.ensures.local ∙ ap₂ with_subcommand c.in_ok-top.ensures (ap (λ (a : App). a.top) c.in_ok-run.ensures.app))
    (ap (λ (a : App). a.top) c.in_ok-live.ensures.app)

pub returns-clause-fails : goal.returns-clause-fails
returns-clause-fails c =
    let given : List Text = map (λ w. w.now) c.args.words.now in
    subst (λ (a : App). FailsBy (fault_of a given) c.try_get_matches_from.result) (app_is c)
    (c.try_get_matches_from.ensures.kinds (ap is_simple_and_free (app_is c) ∙ olap-is_simple_and_free))

pub returns-clause-found : goal.returns-clause-found
returns-clause-found c =
    let given : List Text = map (λ w. w.now) c.args.words.now in
    IfOk-weaker c.try_get_matches_from.result _ _
    (λ m h. (h (ap is_simple (app_is c) ∙ olap-is_simple)).1 ∙ ap (λ (a : App). subcommand_of a given) (app_is c))
    c.try_get_matches_from.ensures.matches
