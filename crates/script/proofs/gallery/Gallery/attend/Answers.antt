use Rattle.std.proofs.Common.{ap, rules}
use Rattle.script.specs.Viewers.{asked_of, viewing_of}
use Rattle.script.proofs.GalleryLemmas.{attended_begun, has_viewers, if_err_any, turns_kept}
use Rattle.script.proofs.TailsLemmas.{attended_late, attended_none, expected_nobody}
use Rattle.script.proofs.gallery.Gallery.attend.Goals as goal

pub returns-in_default-clause-attended : goal.returns-in_default-clause-attended
returns-in_default-clause-attended g c = attended_none (asked_of c.args.setup.now.viewing) c.args.desk.now c.args.self.now.stage c.args.self.now.audience.watches c.args.self.now.onlookers (ap asked_of c.in_default.is)

pub returns-in_default-stage-clause-attended : goal.returns-in_default-stage-clause-attended
returns-in_default-stage-clause-attended g c =
    attended_late (asked_of c.args.setup.now.viewing) c.args.desk.now c.args.self.now.stage c.args.self.now.audience.watches c.args.self.now.onlookers c.requires.attend (λ is. absurd (search (rules, is)))

pub returns-in_default-desk-clause-attended : goal.returns-in_default-desk-clause-attended
returns-in_default-desk-clause-attended g c =
    attended_late (asked_of c.args.setup.now.viewing) c.args.desk.now c.args.self.now.stage c.args.self.now.audience.watches c.args.self.now.onlookers c.requires.attend (λ is. c.in_default-desk.is)

pub begin-requires-clause-nobody : goal.begin-requires-clause-nobody
begin-requires-clause-nobody g c κs within =
    expected_nobody c.args.setup.now.manner.now (asked_of c.args.setup.now.viewing) (viewing_of c.in-Some.viewing) c.args.desk.now c.args.self.now.stage c.args.self.now.audience.watches c.args.self.now.onlookers (ap asked_of c.in-Some.is) c.in-Expected.is c.requires.attend

pub returns-clause-attended : goal.returns-clause-attended
returns-clause-attended g c =
    attended_begun c.args.setup.now.manner.now (asked_of c.args.setup.now.viewing) (viewing_of c.in-Some.viewing) _ c.in-Some-desk.keeper c.begin.new.self.stage c.begin.new.self.audience.watches c.begin.new.self.onlookers c.begin.result (ap asked_of c.in-Some.is) (search rules)
    c.begin.ensures.attend c.begin.ensures.stage

pub returns-clause-asked : goal.returns-clause-asked
returns-clause-asked g c = if_err_any c.begin.result _ (has_viewers (asked_of c.args.setup.now.viewing) (viewing_of c.in-Some.viewing) (ap asked_of c.in-Some.is))

pub returns-clause-turns : goal.returns-clause-turns
returns-clause-turns g c =
    turns_kept (asked_of c.args.setup.now.viewing) (viewing_of c.in-Some.viewing) c.args.self.now.stage c.begin.new.self.stage c.args.self.now.onlookers c.begin.new.self.onlookers c.begin.result (ap asked_of c.in-Some.is) c.in-Expected.is c.begin.ensures.turns
