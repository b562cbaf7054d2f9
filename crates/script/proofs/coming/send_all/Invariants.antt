use Rattle.std.proofs.Common.{◌≡◌, ◌+◌, ◌<◌, [], length}
use Rattle.std.specs.Vec.Iter.{into_iter_items}
use Rattle.board.specs.Editions.{schema}
use Rattle.script.specs.Turns.{turns_from}
use Rattle.script.specs.Viewers.{AreAsked, AreOnlooking, turns_in, viewing_of}
use Rattle.script.specs.declared.manner.Manner.{Manner}
use Rattle.script.proofs.coming.send_all.Given as goal

abbrev pub invariant-loop-question : goal.invariant-loop-question
invariant-loop-question g l = record {
  same : l.keeper ≡ l.fn.keeper;
  many : l.number + length (into_iter_items l.question-iterator) ≡ length l.fn.questions.items;
  none : 0 < l.viewing.shots → l.onlookers.waiting ≡ [];
  turns : turns_in l.onlookers ≡ turns_from 1 l.viewing.shots l.number;
  sent : (manner : Manner) → AreAsked manner (schema l.fn.keeper) l.viewing.query.now l.fn.questions.items →
      AreAsked manner (schema l.fn.keeper) l.viewing.query.now (into_iter_items l.question-iterator) × AreOnlooking manner (viewing_of l.viewing) l.fn.keeper l.onlookers;
}
