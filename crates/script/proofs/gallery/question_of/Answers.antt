use Rattle.std.proofs.Common.{refl, subst, sym}
use Rattle.script.specs.Viewers.{IsAskedSo}
use Rattle.script.proofs.gallery.question_of.Goals as goal

pub returns-clause-asked : goal.returns-clause-asked
returns-clause-asked c =
    subst (IsAskedSo c.args.manner.now c.args.schema.now c.args.query.now) (sym c.in_ok-question.ensures) (record { plan = c.in_ok-plan.plan; means = c.in_ok-plan.ensures; is = refl })
