use Rattle.std.proofs.Common.{◌≡◌, take}
use Rattle.cells.specs.RowReading.{HasRead}
use Rattle.csv.specs.Records.{fields_of}
use Rattle.loader.proofs.record.read_row.Given as goal

abbrev pub invariant-loop-field : goal.invariant-loop-field
invariant-loop-field l = record {
  same : l.field-iterator.row.now ≡ l.record;
  table : l.row.table ≡ l.schema;
  read : HasRead (take l.field-iterator.at (fields_of l.record)) l.row;
}
