use Rattle.std.proofs.Common.{subst}
use Rattle.columns.specs.Coding.{PutsFor}
use Rattle.columns.specs.Columns.{cells_at, rows_of}
use Rattle.columns.proofs.HoldLemmas.{piece_put}
use Rattle.columns.proofs.named_column.NamedColumn.take_all.Goals as goal

pub returns : goal.returns
returns g c =
    subst (λ old. PutsFor (λ index. cells_at index (rows_of c.args.piece.now)) old c.walk.new.visitor) c.reserve.ensures
    (piece_put c.reserve.new.self c.walk.new.visitor c.args.piece.now c.in_ok-walk.ensures)
