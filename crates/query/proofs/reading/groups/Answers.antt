use Rattle.std.proofs.lemmas.Result.{err_from_is_err_and}
use Rattle.query.proofs.Lists.{turn_err, turn_found}
use Rattle.query.proofs.Ends.{by_mark}
use Rattle.query.proofs.reading.groups.Goals as goal

pub returns-in_err-elements : goal.returns-in_err-elements
returns-in_err-elements c =
    let p = err_from_is_err_and c.from_residual.result c.from_residual.ensures.1 in
    rw (p.1, p.2) (turn_err (by_mark c.args.tokens.now c.word_mark-distinct.result.0 c.word_mark-distinct.result.1.now c.word_mark-distinct.ensures.marked) c.in_err-elements.ensures.reads)

pub returns : goal.returns
returns c = turn_found (by_mark c.args.tokens.now c.word_mark-distinct.result.0 c.word_mark-distinct.result.1.now c.word_mark-distinct.ensures.marked) c.in_ok-elements.ensures.reads
