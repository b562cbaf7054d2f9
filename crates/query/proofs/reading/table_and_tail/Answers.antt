use Rattle.query.specs.Values.{from_tree}
use Rattle.query.proofs.Lists.{beside_reads, split_found}
use Rattle.query.proofs.Ends.{from_split}
use Rattle.query.proofs.reading.table_and_tail.Goals as goal

pub returns : goal.returns
returns c =
    beside_reads from_tree (λ v. v) c.in_ok-table.table c.tail.result c.beside.result (split_found (from_split c.args.tokens.now) c.in_ok-table.ensures.reads)
    c.tail.ensures c.beside.ensures
