use Rattle.std.specs.Prelude.{◌≡◌, ◌++◌, ℕ, List}
use Rattle.std.proofs.Common.{subst}
use Rattle.cells.specs.Values.{RowValue}
use Rattle.columns.specs.Columns.{Hold, has, rows_of}
use Rattle.columns.proofs.HoldLemmas.{taken_all, taken_has}
use Rattle.columns.proofs.columns.Columns.take.Goals as goal

pub returns-clause-same : goal.returns-clause-same
returns-clause-same g c =
    subst (λ old. (index : ℕ) → has c.walk.new.visitor index ≡ has old index) c.reserve.ensures
    (λ index. taken_has index c.reserve.new.self c.walk.new.visitor c.args.piece.now c.in_ok-walk.ensures)

pub returns-clause-held : goal.returns-clause-held
returns-clause-held g c =
    subst (λ old. (rows : List RowValue) → Hold rows old → Hold (rows ++ rows_of c.args.piece.now) c.walk.new.visitor) c.reserve.ensures
    (λ rows held. taken_all c.reserve.new.self c.walk.new.visitor c.args.piece.now c.in_ok-walk.ensures rows held)
