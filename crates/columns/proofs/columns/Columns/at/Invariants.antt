use Rattle.std.proofs.Common.{◌≡◌, false, take}
use Rattle.std.specs.List.{list_any}
use Rattle.columns.proofs.HoldLemmas.{is_of}
use Rattle.columns.proofs.columns.Columns.at.Given as goal

abbrev pub invariant-loop-named : goal.invariant-loop-named
invariant-loop-named l = (l.named-items ≡ l.self) × (list_any (is_of l.index) (take l.named-index l.named-items) ≡ false)
