use Rattle.std.proofs.Common.{None}
use Rattle.query.proofs.Lists.{beside_reads}
use Rattle.query.proofs.Ends.{tail_none}
use Rattle.query.proofs.reading.tail.Goals as goal

pub returns-in-Some : goal.returns-in-Some
returns-in-Some c = rw c.in-Some.ensures c.where_tail.ensures

pub returns : goal.returns
returns c =
    beside_reads (λ p g. (p, g)) (λ v. v) None c.grouped.result c.beside.result (tail_none c.args.tokens.now c.in_default.ensures) c.grouped.ensures c.beside.ensures
