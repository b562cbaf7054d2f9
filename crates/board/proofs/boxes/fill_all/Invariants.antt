use Rattle.std.proofs.Common.{◌≡◌, ◌+◌, ◌-◌, ◌<◌, length, All}
use Rattle.board.specs.Ends.{GoesOn}
use Rattle.board.specs.Law.{IsEnd}
use Rattle.board.proofs.boxes.fill_all.Given as goal

abbrev pub invariant-loop-copy : goal.invariant-loop-copy
invariant-loop-copy g l = GoesOn (l.word - 1) l.fn.seat l.seat × (l.word + length l.copies.items ≡ length l.fn.copies.items + 1) × (0 < l.word) × All (IsEnd l.fn.seat.me.0.seen l.fn.seat.me.0.schema) l.copies.items

abbrev pub decreases-loop-copy : goal.decreases-loop-copy
decreases-loop-copy g l = goal.left-loop-copy g l
