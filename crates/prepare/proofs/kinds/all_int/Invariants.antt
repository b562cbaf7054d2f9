use Rattle.std.proofs.Common.{◌≡◌, ◌<◌, ℕ, length}
use Rattle.std.specs.List.{slice_index_or}
use Rattle.cells.specs.declared.schema.ColumnType.TheVariants.{Int, Text}
use Rattle.prepare.proofs.kinds.all_int.Given as goal

abbrev pub invariant-loop : goal.invariant-loop
invariant-loop l = record {
  long : length l.types.items ≡ l.counter;
  each : (place : ℕ) → place < l.counter → slice_index_or l.types.items place Text ≡ Int;
}
