use Rattle.groups.proofs.PoolRowsLemmas.{AreRowsOf}
use Rattle.groups.proofs.pool_rows.rows_of_sources.Given as goal

abbrev pub invariant-loop-set : goal.invariant-loop-set
invariant-loop-set g l = AreRowsOf l.plan l.aggregations l.pool.items l.set-index l.rows.items
