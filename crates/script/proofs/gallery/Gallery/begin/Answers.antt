use Rattle.std.proofs.Common.{rules}
use Rattle.script.specs.Viewers.{viewing_of}
use Rattle.script.proofs.GalleryLemmas.{turned_all, turns_turned}
use Rattle.script.proofs.gallery.Gallery.begin.Goals as goal

pub returns-in_ok-seat-in-Ok-clause-attend : goal.returns-in_ok-seat-in-Ok-clause-attend
returns-in_ok-seat-in-Ok-clause-attend g c = c.in_ok-seat-in-Ok.ensures.attend c.args.manner.now (rw (← c.schema.ensures) c.in-Ok.ensures.asked)

pub returns-in-Err-clause-attend : goal.returns-in-Err-clause-attend
returns-in-Err-clause-attend g c =
    turned_all (viewing_of c.args.viewing) c.args.keeper.now c.in-Err.fault c.args.self.now.audience.watches c.args.self.now.onlookers c.requires.nobody (search rules) (rw c.schema.ensures at c.in-Err.ensures.refused)

pub returns-in-Err-clause-turns : goal.returns-in-Err-clause-turns
returns-in-Err-clause-turns g c = turns_turned c.args.viewing.showing (viewing_of c.args.viewing) c.in-Err.fault c.args.self.now.onlookers
