use Rattle.std.proofs.Common.{◌≡◌, ◌+◌, ℕ, List, length}
use Rattle.std.specs.List.{AllByRecursion}
use Rattle.board.specs.Editions.{edition, schema}
use Rattle.script.specs.Desks.{Keeps}
use Rattle.script.specs.Givens.{Givens}
use Rattle.script.specs.Output.{editions}
use Rattle.script.specs.Tails.{AreViewers}
use Rattle.script.specs.Viewers.{IsStarted, viewing_of}
use Rattle.script.proofs.EndingsLemmas.{SoFar}
use Rattle.script.proofs.gallery.Gallery.write_viewers.Given as goal

abbrev pub invariant-loop-watched : goal.invariant-loop-watched
invariant-loop-watched g l = record {
  so_far : (givens : Givens) (before : List (List ℕ)) → Keeps givens before l.fn.keeper →
      SoFar (g.O.Out.taken l.fn.out) (g.O.Out.taken l.out) (AreViewers l.setup.manner.now (schema l.fn.keeper) (editions givens before) (edition l.fn.keeper) (viewing_of l.viewing) (l.number + 1) (length l.self.audience.watches))
      (AreViewers l.setup.manner.now (schema l.fn.keeper) (editions givens before) (edition l.fn.keeper) (viewing_of l.viewing) 1 (length l.fn.self.audience.watches));
  started : AllByRecursion (IsStarted l.setup.manner.now (viewing_of l.viewing) l.fn.keeper) l.self.audience.watches;
  same : l.keeper ≡ l.fn.keeper;
  counted : l.number + length l.self.audience.watches ≡ length l.fn.self.audience.watches;
  sound : g.O.Out.faults l.out ≡ g.O.Out.faults l.fn.out;
}

abbrev pub decreases-loop-watched : goal.decreases-loop-watched
decreases-loop-watched g l = length l.self.audience.watches
