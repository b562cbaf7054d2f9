use Rattle.std.proofs.Common.{take}
use Rattle.columns.specs.Columns.{Hold}
use Rattle.crew.specs.Gathering.{rows_in}
use Rattle.groups.specs.Needed.{Serve}
use Rattle.report.proofs.here.columns_of_pieces.Given as goal

abbrev pub invariant-loop-piece : goal.invariant-loop-piece
invariant-loop-piece g l = record {
  held : Hold (rows_in (take l.piece-index l.pieces)) l.columns;
  serve : Serve l.plan l.columns;
}
