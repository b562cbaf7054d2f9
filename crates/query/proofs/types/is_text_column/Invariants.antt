use Rattle.std.proofs.Common.{◌≡◌, drop}
use Rattle.query.specs.Checks.{is_text_column}
use Rattle.query.proofs.types.is_text_column.Given as goal

abbrev pub invariant-loop-column : goal.invariant-loop-column
invariant-loop-column l = is_text_column l.columns l.name ≡ is_text_column (drop l.column-index l.columns) l.name
