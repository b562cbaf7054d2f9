use Rattle.std.proofs.Common.{ap, rules, subst}
use Rattle.script.specs.Desks.{IsBehind}
use Rattle.script.specs.Givens.{givens_of}
use Rattle.script.specs.Viewers.{HasAttended, asked_of, turns_of, viewing_of}
use Rattle.script.proofs.GalleryLemmas.{attended_still, has_viewers, if_err_any, shows_nothing, shows_those}
use Rattle.script.proofs.TailsLemmas.{all_sent, attended_at}
use Rattle.script.proofs.gallery.Gallery.come.Goals as goal

pub returns-in_default-clause-came : goal.returns-in_default-clause-came
returns-in_default-clause-came g c = λ before stands. shows_nothing (givens_of c.args.setup.now) (asked_of c.args.setup.now.viewing) before (turns_of (asked_of c.args.setup.now.viewing) c.args.self.now.stage c.args.self.now.onlookers) _ (search rules)

pub returns-in_default-showing-clause-came : goal.returns-in_default-showing-clause-came
returns-in_default-showing-clause-came g c = λ before stands. shows_nothing (givens_of c.args.setup.now) (asked_of c.args.setup.now.viewing) before (turns_of (asked_of c.args.setup.now.viewing) c.args.self.now.stage c.args.self.now.onlookers) _ (search rules)

pub returns-in_default-stage-clause-came : goal.returns-in_default-stage-clause-came
returns-in_default-stage-clause-came g c = λ before stands. shows_nothing (givens_of c.args.setup.now) (asked_of c.args.setup.now.viewing) before (turns_of (asked_of c.args.setup.now.viewing) c.args.self.now.stage c.args.self.now.onlookers) _ (search rules)

pub returns-in_default-desk-clause-came : goal.returns-in_default-desk-clause-came
returns-in_default-desk-clause-came g c = λ before stands. shows_nothing (givens_of c.args.setup.now) (asked_of c.args.setup.now.viewing) before (turns_of (asked_of c.args.setup.now.viewing) c.args.self.now.stage c.args.self.now.onlookers) _ (search rules)

pub come-requires-clause-looking : goal.come-requires-clause-looking
come-requires-clause-looking g c κs within =
    all_sent (viewing_of c.in-Some.viewing) c.in-AsTheyCome.is
    (attended_at (asked_of c.args.setup.now.viewing) (viewing_of c.in-Some.viewing) c.in-Some-desk.keeper c.args.self.now.stage c.args.self.now.audience.watches c.args.self.now.onlookers (ap asked_of c.in-Some.is) c.in-Begun.is
    (subst (λ d. HasAttended c.args.setup.now.manner.now (asked_of c.args.setup.now.viewing) d c.args.self.now.stage c.args.self.now.audience.watches c.args.self.now.onlookers) c.in-Some-desk.is c.requires.attended)).attend

pub returns-clause-attended : goal.returns-clause-attended
returns-clause-attended g c =
    attended_still c.args.setup.now.manner.now (asked_of c.args.setup.now.viewing) (viewing_of c.in-Some.viewing) c.args.desk.now _ c.in-Some-desk.keeper c.args.self.now.stage c.args.self.now.audience.watches c.args.self.now.onlookers c.come.new.onlookers c.come.result
    (ap asked_of c.in-Some.is) c.in-Begun.is c.in-AsTheyCome.is c.in-Some-desk.is (search rules) c.requires.attended c.come.ensures.looking

pub returns-clause-came : goal.returns-clause-came
returns-clause-came g c = λ before stands.
    shows_those (givens_of c.args.setup.now) (asked_of c.args.setup.now.viewing) (viewing_of c.in-Some.viewing) before c.args.self.now.stage c.args.self.now.onlookers c.come.new.onlookers c.come.result
    (ap asked_of c.in-Some.is) c.in-Begun.is c.in-AsTheyCome.is (c.come.ensures.came before (subst (IsBehind (givens_of c.args.setup.now) before) c.in-Some-desk.is stands))

pub returns-clause-asked : goal.returns-clause-asked
returns-clause-asked g c = if_err_any c.come.result _ (has_viewers (asked_of c.args.setup.now.viewing) (viewing_of c.in-Some.viewing) (ap asked_of c.in-Some.is))
