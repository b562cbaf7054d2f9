use Rattle.std.proofs.Common.{◌≡◌, length, All, vec_capacity, vec_len}
use Rattle.board.proofs.writer.Writer.copies.Given as goal

abbrev pub invariant-loop-viewer : goal.invariant-loop-viewer
invariant-loop-viewer g l = record {
  made : length l.all.items ≡ l._viewer;
  same : All (λ e. e ≡ l.fn.edition) l.all.items;
  count : vec_len l.all ≡ l._viewer;
  room : vec_capacity l.all ≡ l.fn.self.made;
}
