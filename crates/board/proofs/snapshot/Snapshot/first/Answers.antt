use Rattle.cells.specs.RowsFit.{rows_none}
use Rattle.board.specs.Limits.{row_limit}
use Rattle.board.proofs.EditionsLemmas.{empty_within}
use Rattle.board.proofs.snapshot.Snapshot.first.Goals as goal

pub new-requires : goal.new-requires
new-requires g c = record { fit = rows_none c.args.schema.value _ c.empty.ensures; few = empty_within _ row_limit c.empty.ensures }
