use Rattle.std.proofs.Common.{◌≡◌, ◌+◌, ◌++◌, ℕ, List, [], length}
use Rattle.std.specs.Option.{option_map_or}
use Rattle.cells.specs.RowReading.{HasRead}
use Rattle.loader.specs.Records.{between_commas}
use Rattle.loader.proofs.plain.read_plain.Given as goal

abbrev pub invariant-loop-left : goal.invariant-loop-left
invariant-loop-left l = record {
  table : l.row.table ≡ l.schema;
  read : (front : List (List ℕ)) × HasRead front l.row × (between_commas l.fn.text ≡ front ++ option_map_or (λ rest. between_commas rest.now) l.left []);
}

abbrev pub decreases-loop-left : goal.decreases-loop-left
decreases-loop-left l = option_map_or (λ rest. length rest.now + 1) l.left 0
