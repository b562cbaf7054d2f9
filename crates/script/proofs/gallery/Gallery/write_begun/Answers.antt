use Rattle.std.proofs.Common.{Some, refl}
use Rattle.script.specs.Givens.{givens_of}
use Rattle.script.specs.Viewers.{turns_of, viewing_of}
use Rattle.script.specs.declared.stage.Stage.TheVariants.{Begun}
use Rattle.script.proofs.TailsLemmas.{all_begun, all_sent, delivers_coming, delivers_viewed}
use Rattle.script.proofs.gallery.Gallery.write_begun.Goals as goal

pub write_viewers-requires-clause-started : goal.write_viewers-requires-clause-started
write_viewers-requires-clause-started g c κs within =
    (all_begun (viewing_of c.args.viewing) c.in-Last.is c.requires.attended.attend).0

pub write_viewers-requires-clause-many : goal.write_viewers-requires-clause-many
write_viewers-requires-clause-many g c κs within =
    (all_begun (viewing_of c.args.viewing) c.in-Last.is c.requires.attended.attend).1

pub returns-in-Last : goal.returns-in-Last
returns-in-Last g c = record {
  tail = λ hash on before keeps.
      delivers_viewed hash (givens_of c.args.setup.now) on before (turns_of (Some (viewing_of c.args.viewing)) Begun c.args.self.now.onlookers) g.O.Out.taken g.O.Out.faults c.args.out.now c.write_viewers.new.out c.write_viewers.result (viewing_of c.args.viewing)
      c.args.keeper.now c.args.self.now.audience.watches c.args.self.now.onlookers c.in-Last.is c.requires.attended keeps (c.write_viewers.ensures.views (givens_of c.args.setup.now) before keeps);
}

pub write_turns-requires-clause-looking : goal.write_turns-requires-clause-looking
write_turns-requires-clause-looking g c κs within =
    all_sent (viewing_of c.args.viewing) c.in-AsTheyCome.is c.requires.attended.attend

pub returns-in-AsTheyCome : goal.returns-in-AsTheyCome
returns-in-AsTheyCome g c = record {
  tail = λ hash on before keeps.
      delivers_coming hash (givens_of c.args.setup.now) on before (turns_of (Some (viewing_of c.args.viewing)) Begun c.args.self.now.onlookers) g.O.Out.taken g.O.Out.faults c.args.out.now c.write_turns.new.out c.write_turns.result (viewing_of c.args.viewing)
      c.args.self.now.onlookers c.in-AsTheyCome.is refl (c.write_turns.ensures.views hash on before keeps);
}
