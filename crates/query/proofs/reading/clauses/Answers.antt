use Rattle.std.proofs.Common.{sym}
use Rattle.std.proofs.lemmas.Result.{err_from_is_err_and}
use Rattle.query.proofs.Lists.{split_found, turn_err, turn_found}
use Rattle.query.proofs.Ends.{query_split}
use Rattle.query.proofs.reading.clauses.Goals as goal

pub returns-in_err-table : goal.returns-in_err-table
returns-in_err-table c =
    let p = err_from_is_err_and c.from_residual-in_err-table.result c.from_residual-in_err-table.ensures.1 in
    rw (p.1, p.2) (turn_err (split_found (query_split c.args.tokens.now c.in-Some.more.now c.in-Some.ensures) c.in_ok-items.ensures) c.in_err-table.ensures)

pub returns : goal.returns
returns c =
    turn_found (split_found (query_split c.args.tokens.now c.in-Some.more.now c.in-Some.ensures) c.in_ok-items.ensures) (rw (sym c.grouped.view_is) at c.in_ok-table.ensures)
