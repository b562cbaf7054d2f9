use Rattle.std.proofs.Common.{◌≡◌, map, take}
use Rattle.cells.specs.RowReading.{HasRead}
use Rattle.cells.proofs.row.Row.read.Given as goal

abbrev pub invariant-loop-field : goal.invariant-loop-field
invariant-loop-field l = record {
  table : l.row.table ≡ l.schema;
  read : HasRead (map (λ f. f.now) (take l.field-index l.fields)) l.row;
}
