use Rattle.std.proofs.Common.{◌≡◌, List, ℕ}
use Rattle.script.specs.Desks.{Keeps}
use Rattle.script.specs.Givens.{givens_of}
use Rattle.script.specs.Viewers.{AreOnlooking, ShowAll, turns_in, viewing_of}
use Rattle.script.proofs.coming.come.Given as goal

abbrev pub invariant-loop : goal.invariant-loop
invariant-loop g l = record {
  same : l.keeper ≡ l.fn.keeper;
  looking : AreOnlooking l.setup.manner.now (viewing_of l.viewing) l.fn.keeper l.onlookers;
  came : (before : List (List ℕ)) → Keeps (givens_of l.setup) before l.fn.keeper →
      ShowAll (givens_of l.setup) (viewing_of l.viewing) before (turns_in l.fn.onlookers) (turns_in l.onlookers) l.text.items;
}
