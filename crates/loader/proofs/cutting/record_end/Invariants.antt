use Rattle.std.proofs.Common.{◌≡◌, ◌<◌, ◌≤◌, ℕ, take}
use Rattle.csv.specs.Reading.{strip_bom}
use Rattle.csv.specs.declared.parser.State.TheVariants as st
use Rattle.loader.specs.Cuts.{IsCut, state_after}
use Rattle.loader.specs.States.{machine_state}
use Rattle.loader.proofs.cutting.record_end.Given as goal

abbrev pub invariant-loop-at : goal.invariant-loop-at
invariant-loop-at l = record {
  front : 3 ≤ l.at;
  state : machine_state l.state ≡ state_after st.StartRecord (strip_bom (take l.at l.bytes));
  none : (place : ℕ) → l.size ≤ place → place < l.at → IsCut l.bytes place → ⊥;
}
