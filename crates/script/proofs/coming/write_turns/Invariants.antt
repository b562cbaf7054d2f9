use Rattle.std.proofs.Common.{◌≡◌, List, [], ℕ}
use Rattle.cells.specs.declared.cell.Cell.{Cell}
use Rattle.script.specs.Coming.{blocks_left}
use Rattle.script.specs.Desks.{Keeps}
use Rattle.script.specs.Givens.{givens_of}
use Rattle.script.specs.Turns.{AreBlocksBeside}
use Rattle.script.specs.Viewers.{AreOnlooking, turns_in, viewing_of}
use Rattle.script.specs.declared.finish.Finish.TheVariants.{Through}
use Rattle.script.specs.declared.on_refusal.OnRefusal.{OnRefusal}
use Rattle.script.proofs.EndingsLemmas.{SoFar}
use Rattle.script.proofs.coming.write_turns.Given as goal

abbrev pub invariant-loop-block : goal.invariant-loop-block
invariant-loop-block g l = record {
  same : l.keeper ≡ l.fn.keeper;
  looking : AreOnlooking l.setup.manner.now (viewing_of l.viewing) l.fn.keeper l.onlookers;
  so_far : (hash : Cell → ℕ) (on : OnRefusal) (before : List (List ℕ)) → Keeps (givens_of l.setup) before l.fn.keeper →
      SoFar (g.O.Out.taken l.fn.out) (g.O.Out.taken l.out) (AreBlocksBeside hash (givens_of l.setup) on (viewing_of l.viewing) before [] (turns_in l.onlookers) Through) (AreBlocksBeside hash (givens_of l.setup) on (viewing_of l.viewing) before [] (turns_in l.fn.onlookers) Through);
  sound : g.O.Out.faults l.out ≡ g.O.Out.faults l.fn.out;
}

abbrev pub decreases-loop-block : goal.decreases-loop-block
decreases-loop-block g l = blocks_left (turns_in l.onlookers)
