use Rattle.std.proofs.Common.{◌≡◌, map, take}
use Rattle.cells.specs.RowReading.{HasRead}
use Rattle.reasons.proofs.record_fault.first_bad.Given as goal

abbrev pub invariant-loop-place : goal.invariant-loop-place
invariant-loop-place l = record {
  table : l.row.table ≡ l.schema;
  read : HasRead (map (λ f. f.now) (take l.place l.fields)) l.row;
}
