use Rattle.std.proofs.Common.{map}
use Rattle.loader.specs.Parts.{part_of}
use Rattle.script.proofs.ListingsLemmas.{IsFound, left_len}
use Rattle.script.proofs.listing.parts_spelt.Given as goal

abbrev pub invariant-loop-left : goal.invariant-loop-left
invariant-loop-left l = IsFound (map (λ p. p.items) l.parts) l.text (map part_of l.listed.items) l.left

abbrev pub decreases-loop-left : goal.decreases-loop-left
decreases-loop-left l = left_len l.left
