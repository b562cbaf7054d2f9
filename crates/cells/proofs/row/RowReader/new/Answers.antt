use Rattle.std.proofs.Common.{arith}
use Rattle.cells.specs.RowBytes.{row_bytes}
use Rattle.cells.proofs.PackingLemmas.{cells_in_none, fills_none}
use Rattle.cells.proofs.RecordsLemmas.{none_read}
use Rattle.cells.proofs.row.RowReader.new.Goals as goal

pub invariant_of-result : goal.invariant_of-result
invariant_of-result c = (omega arith, fills_none (row_bytes c.new.result) c.new.ensures)

pub returns-clause-nothing : goal.returns-clause-nothing
returns-clause-nothing c = none_read _ (cells_in_none (row_bytes c.new.result))
