-- A piece of one row at most, folded twice.
use Rattle.std.specs.Prelude.{ℕ, ◌≤◌, List, length}
use Rattle.std.proofs.Common.{arith}
use Rattle.std.proofs.lemmas.List.{length-map}
use Rattle.aggs.specs.declared.acc.Acc.{Acc}
use Rattle.cells.specs.Values.{RowValue}
use Rattle.cells.specs.declared.cell.Cell.{Cell}
use Rattle.groups.specs.Groups.{keeps, kept}
use Rattle.groups.specs.Laws.{kept_short}
use Rattle.groups.specs.Partials.{MayMeet, Stands, rows_of}
use Rattle.query.specs.Plans.{PlanTree}

module _ {H : Type 0} (plan : PlanTree) (piece : List (Cell × RowValue)) (short : length piece ≤ 1) where
  pub may_meet : (hash : List Cell → ℕ) (first second : List (List (List Cell × List (Acc H)))) → Stands hash plan (kept plan.condition (rows_of piece)) first →
      Stands hash plan (kept plan.condition (rows_of piece)) second → MayMeet hash first second
  may_meet hash first second firsts seconds = record {
    plan = plan;
    xs = kept plan.condition (rows_of piece);
    ys = kept plan.condition (rows_of piece);
    few = omega (arith, short, kept_short (keeps plan.condition) (rows_of piece), length-map piece (λ e. e.1));
    firsts = firsts;
    seconds = seconds;
  }
