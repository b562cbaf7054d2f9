use Rattle.std.proofs.Common.{◌≡◌}
use Rattle.std.specs.List.{fold}
use Rattle.std.specs.Prelude.{bytes_eq}
use Rattle.query.specs.Different.{different, with_new}
use Rattle.query.proofs.sets.different_sets.Given as goal

abbrev pub invariant-loop-set : goal.invariant-loop-set
invariant-loop-set l = different bytes_eq l.fn.sets.items ≡ fold (with_new bytes_eq) l.different.items l.set-iterator.rest.items
