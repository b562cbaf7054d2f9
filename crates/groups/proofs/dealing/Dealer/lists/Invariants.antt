use Rattle.std.proofs.Common.{◌≡◌, IsPermutation, length}
use Rattle.std.specs.List.{concat, range_with_len}
use Rattle.groups.specs.Dealing.{indexes_of}
use Rattle.groups.proofs.dealing.Dealer.lists.Given as goal

abbrev pub invariant-loop-row : goal.invariant-loop-row
invariant-loop-row l = record {
  dealt : IsPermutation (concat (indexes_of l.made.items)) (range_with_len 0 l.row);
  long : length l.made.items ≡ l.lists;
}
