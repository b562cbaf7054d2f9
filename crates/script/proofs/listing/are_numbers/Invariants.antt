use Rattle.script.proofs.ListingsLemmas.{IsAllLeft, left_len}
use Rattle.script.proofs.listing.are_numbers.Given as goal

abbrev pub invariant-loop-left : goal.invariant-loop-left
invariant-loop-left l = IsAllLeft l.text l.left

abbrev pub decreases-loop-left : goal.decreases-loop-left
decreases-loop-left l = left_len l.left
