use Rattle.std.proofs.Common.{◌≡◌, ◌<◌, ◌^◌}
use Rattle.trie.specs.Digits.{first_number, slot_count}
use Rattle.trie.proofs.digits.digits_number.Given as goal

abbrev pub invariant-loop-depth : goal.invariant-loop-depth
invariant-loop-depth l =
    record {
      is : l.number ≡ first_number l.hash l.depth;
      small : l.number < slot_count ^ l.depth;
    }
