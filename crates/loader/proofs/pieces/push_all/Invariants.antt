use Rattle.std.proofs.Common.{◌≡◌, ◌++◌, true}
use Rattle.std.specs.Vec.Iter.{into_iter_items}
use Rattle.loader.specs.Pieces.{labelled}
use Rattle.loader.proofs.pieces.push_all.Given as goal

abbrev pub invariant-loop-bytes : goal.invariant-loop-bytes
invariant-loop-bytes l = l.pieces.items ++ labelled l.place l.part l.first (into_iter_items l.bytes-iterator) ≡ l.fn.pieces.items ++ labelled l.place l.part true l.fn.texts.items
