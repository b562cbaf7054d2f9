use Rattle.std.proofs.lemmas.Result.{err_from_is_err_and}
use Rattle.query.proofs.Ends.{last_reads, predicate_none}
use Rattle.query.proofs.Lists.{part_err}
use Rattle.query.proofs.reading.last_predicate.Goals as goal

pub returns-in_err-predicate : goal.returns-in_err-predicate
returns-in_err-predicate c =
    let p = err_from_is_err_and c.from_residual.result c.from_residual.ensures.1 in
    rw (p.1, p.2) (part_err (predicate_none c.args.tokens.now) c.in_err-predicate.ensures.reads)

pub returns : goal.returns
returns c = last_reads c.args.tokens.now c.in_ok-predicate.predicate c.in_ok-predicate.rest.now c.ended.result c.in_ok-predicate.ensures.reads c.ended.ensures
