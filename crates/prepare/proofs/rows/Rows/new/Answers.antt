use Rattle.std.proofs.Common.{map}
use Rattle.prepare.specs.Proposals.{rows_of}
use Rattle.prepare.proofs.RowsLemmas.{before_all}
use Rattle.prepare.proofs.rows.Rows.new.Goals as goal

pub returns : goal.returns
returns c = before_all c.new.result (rows_of (map (λ p. p.items) c.args.parts.now)) c.new.ensures
