use Rattle.std.proofs.Common.{sym}
use Rattle.crew.specs.Gathering.{rows_in}
use Rattle.report.proofs.here.folding_of_pieces.Goals as goal

pub returns : goal.returns
returns g c = c.of_columns.ensures (rows_in c.args.pieces.now) c.in_ok-columns.ensures.held (sym c.requires.count)
