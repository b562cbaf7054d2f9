use Rattle.std.proofs.Common.{◌∙◌}
use Rattle.script.specs.Viewers.{viewing_of}
use Rattle.script.proofs.GalleryLemmas.{attend_sent, attend_started, coming_turns, last_turns}
use Rattle.script.proofs.gallery.Gallery.seat.Goals as goal

pub returns-in-Last-clause-attend : goal.returns-in-Last-clause-attend
returns-in-Last-clause-attend g c = λ manner asked.
    attend_started manner (viewing_of c.args.viewing) c.args.keeper.now c.start_all.new.self.audience.watches c.start_all.new.self.onlookers c.args.questions.items c.start_all.result c.in-Last.is (c.start_all.ensures.others ∙ c.requires.nobody.1) c.start_all.ensures.many c.requires.many
    (c.start_all.ensures.started manner asked)

pub returns-in-Last-clause-turns : goal.returns-in-Last-clause-turns
returns-in-Last-clause-turns g c = last_turns c.start_all.result c.args.viewing.showing (viewing_of c.args.viewing) c.start_all.new.self.onlookers c.in-Last.is

pub returns-in-AsTheyCome-clause-attend : goal.returns-in-AsTheyCome-clause-attend
returns-in-AsTheyCome-clause-attend g c = λ manner asked.
    attend_sent manner (viewing_of c.args.viewing) c.args.keeper.now c.args.self.now.audience.watches c.send_all.new.onlookers c.send_all.result c.in-AsTheyCome.is c.requires.nobody.0 (c.send_all.ensures.sent manner asked)

pub returns-in-AsTheyCome-clause-turns : goal.returns-in-AsTheyCome-clause-turns
returns-in-AsTheyCome-clause-turns g c =
    coming_turns c.send_all.result c.args.viewing.showing (viewing_of c.args.viewing) c.send_all.new.onlookers c.args.questions.items c.in-AsTheyCome.is c.requires.many c.send_all.ensures.turns
