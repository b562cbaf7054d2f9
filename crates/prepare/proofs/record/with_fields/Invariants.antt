use Rattle.std.proofs.Common.{◌≡◌, ◌++◌, map, take}
use Rattle.csv.specs.Records.{fields_of}
use Rattle.prepare.specs.Parts.{field_of}
use Rattle.prepare.proofs.record.with_fields.Given as goal

abbrev pub invariant-loop-place : goal.invariant-loop-place
invariant-loop-place l = map (λ f. f.now) l.fields.items ≡ map (λ f. f.now) l.fn.fields.items ++ map (field_of l.choice (fields_of l.row)) (take l.place-index l.places)
