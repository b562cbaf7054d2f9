use Rattle.std.proofs.Common.{◌≡◌, length}
use Rattle.script.specs.Viewers.{AreAsked}
use Rattle.script.proofs.gallery.questions_of.Given as goal

abbrev pub invariant-loop : goal.invariant-loop
invariant-loop l = record {
  many : length l.questions.items ≡ l.counter;
  asked : AreAsked l.manner l.schema l.viewing.query.now l.questions.items;
}
