use Rattle.std.proofs.Common.{◌≡◌, map, take}
use Rattle.csv.specs.Records.{fields_of}
use Rattle.records.proofs.reader.fields.Given as goal

abbrev pub invariant-loop-field : goal.invariant-loop-field
invariant-loop-field l = record {
  same : l.field-iterator.row.now ≡ l.row;
  taken : map (λ f. f.now) l.fields.items ≡ take l.field-iterator.at (fields_of l.row);
}
