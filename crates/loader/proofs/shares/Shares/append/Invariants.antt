use Rattle.std.proofs.Common.{◌≡◌, ◌+◌, drop, length}
use Rattle.std.specs.Vec.Iter.{into_iter_items}
use Rattle.loader.specs.Shares.{in_shares, lists, share_count}
use Rattle.loader.proofs.SharesLemmas.{AppendedBelow}
use Rattle.loader.proofs.shares.Shares.append.Given as goal

abbrev pub invariant-loop-rows : goal.invariant-loop-rows
invariant-loop-rows l = record {
  appended : AppendedBelow (in_shares l.fn.self.shares.items) (lists l.fn.part.shares.items) (in_shares l.self.shares.items) l.share;
  left : into_iter_items l.rows-iterator ≡ drop l.share l.fn.part.shares.items;
  counted : l.share + length (into_iter_items l.rows-iterator) ≡ share_count;
}
