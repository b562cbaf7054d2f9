use Rattle.std.proofs.Common.{◌≡◌, ◌+◌, length}
use Rattle.std.specs.List.{AllByRecursion}
use Rattle.std.specs.Vec.Iter.{into_iter_items}
use Rattle.board.specs.Editions.{schema}
use Rattle.script.specs.Viewers.{AreAsked, IsStarted, viewing_of}
use Rattle.script.specs.declared.manner.Manner.{Manner}
use Rattle.script.proofs.gallery.Gallery.start_all.Given as goal

abbrev pub invariant-loop-question : goal.invariant-loop-question
invariant-loop-question g l = record {
  same : l.keeper ≡ l.fn.keeper;
  others : l.self.onlookers ≡ l.fn.self.onlookers;
  many : length l.self.audience.watches + length (into_iter_items l.question-iterator) ≡ length l.fn.questions.items;
  started : (manner : Manner) → AreAsked manner (schema l.fn.keeper) l.viewing.query.now l.fn.questions.items →
      AreAsked manner (schema l.fn.keeper) l.viewing.query.now (into_iter_items l.question-iterator) × AllByRecursion (IsStarted manner (viewing_of l.viewing) l.fn.keeper) l.self.audience.watches;
}
