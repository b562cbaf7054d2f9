use Rattle.std.proofs.Common.{subst}
use Rattle.script.specs.Told.{IsToldReport}
use Rattle.script.proofs.JoiningLemmas.{refused_both}
use Rattle.script.proofs.joining.joined_report.Goals as goal

pub returns-in-Nothing : goal.returns-in-Nothing
returns-in-Nothing g c = λ t xs ys zs together has one two.
    refused_both t xs zs c.args.query.now c.args.first c.args.second c.agreed.result c.in-Nothing.is one c.agreed.ensures

pub returns-in-Kept-second : goal.returns-in-Kept-second
returns-in-Kept-second g c = λ t xs ys zs together has one two.
    c.joined_groups.ensures t xs ys zs together has (subst (IsToldReport t xs c.args.query.now) c.in-Kept.is one) (subst (IsToldReport t ys c.args.query.now) c.in-Kept-second.is two)
