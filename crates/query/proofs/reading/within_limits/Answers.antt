use Rattle.query.proofs.Faults.{within_by}
use Rattle.query.proofs.reading.within_limits.Goals as goal

pub returns : goal.returns
returns c = within_by c.args.clauses c.limit_fault-fault.result c.unless.result c.limit_fault-fault.ensures c.unless.ensures
