use Rattle.std.proofs.Common.{◌≡◌, map, take}
use Rattle.prepare.proofs.listed.owned.Given as goal

abbrev pub invariant-loop-field : goal.invariant-loop-field
invariant-loop-field l = map (λ copy. copy.items) l.copies.items ≡ map (λ f. f.now) (take l.field-index l.fields)
