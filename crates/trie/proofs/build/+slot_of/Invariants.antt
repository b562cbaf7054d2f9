use Rattle.std.proofs.Common.{◌-◌, length}
use Rattle.trie.specs.Building.{HaveOnePrefix, IsBegun}
use Rattle.trie.specs.Dense.{IsDense, slots_in}
use Rattle.trie.specs.Digits.{digit_count}
use Rattle.trie.proofs.build.+slot_of.Given as goal

abbrev pub decreases-slot_of : goal.decreases-slot_of
decreases-slot_of g l = digit_count - l.depth

abbrev pub invariant-loop-digit : goal.invariant-loop-digit
invariant-loop-digit g l =
    record {
      left : HaveOnePrefix g.H.KeyHash.hash_of l.depth l.left;
      begun : IsBegun g.H.KeyHash.hash_of g.K.Ord.cmp l.depth l.pairs l.left l.made.bitmap (slots_in l.made.bitmap l.made.children.items);
      dense : IsDense l.made.bitmap (length l.made.children.items);
    }

abbrev pub decreases-loop-digit : goal.decreases-loop-digit
decreases-loop-digit g l = length l.left
