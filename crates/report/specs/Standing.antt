-- The rows of a report over those of an edition, and what the report keeps of them.
use Rattle.std.specs.Prelude.{◌≡◌, ◌≤◌, List, length}
use Rattle.aggs.specs.Room.{cell_limit}
use Rattle.board.specs.Editions.{IsListOf}
use Rattle.cells.specs.Tables.{Rows, table}
use Rattle.cells.specs.Updates.{AreLeft}
use Rattle.cells.specs.Values.{RowValue}
use Rattle.cells.specs.declared.total.Total.{Total}
use Rattle.groups.specs.Folds.{Folds}
use Rattle.groups.specs.Groups.{kept, report_rows}
use Rattle.groups.specs.declared.folding.Folding.{Folding}
use Rattle.query.specs.Plans.{PlanTree}
use Rattle.report.specs.Arranging.{ArrangementValue, arranged}

-- those of an edition's rows that the plan keeps went into the folding, in some order, and are few enough
pub record AreFolded {H : Type 0} (rows : Rows) (plan : PlanTree) (folding : Folding H) : Type 0 where
  pub list : List RowValue
  pub all : IsListOf rows list
  pub folds : Folds plan (kept plan.condition list) folding
  pub few : length (kept plan.condition list) ≤ cell_limit

-- they are the report's over an edition's rows, in some order of these
pub record AreRowsFor (rows : Rows) (plan : PlanTree) (made : List (List Total)) : Type 0 where
  pub list : List RowValue
  pub all : IsListOf rows list
  pub are : made ≡ report_rows plan list

-- the rows are shown for the plan's report over an edition's rows, in whatever order these are listed: so arranged
pub record AreShown (rows : Rows) (plan : PlanTree) (arrangement : ArrangementValue) (shown : List (List Total)) : Type 0 where
  pub are : (rs : List RowValue) → AreLeft rs → rows ≡ table rs → shown ≡ arranged arrangement plan.headings (report_rows plan rs)
