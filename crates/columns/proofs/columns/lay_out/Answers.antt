use Rattle.std.proofs.Common.{[]}
use Rattle.columns.proofs.columns.lay_out.Goals as goal

pub put_beside-requires-clause-held : goal.put_beside-requires-clause-held
put_beside-requires-clause-held g c = c.in_ok-take.ensures.held [] c.in_ok-all.ensures.none
