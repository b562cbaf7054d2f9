use Rattle.std.proofs.Common.{◌∷◌, Some, refl}
use Rattle.std.proofs.lemmas.Result.{err_from_is_err_and}
use Rattle.query.specs.Grammar.{WHERE}
use Rattle.query.proofs.Lists.{beside_reads, part_err, split_found, split_nothing}
use Rattle.query.proofs.Ends.{tail_split}
use Rattle.query.proofs.reading.where_tail.Goals as goal

pub returns-in_err-condition : goal.returns-in_err-condition
returns-in_err-condition c =
    let p = err_from_is_err_and c.from_residual.result c.from_residual.ensures.1 in
    rw (p.1, p.2) (part_err (split_nothing (tail_split (WHERE ∷ c.args.tokens.now) c.args.tokens.now refl)) c.in_err-condition.ensures.reads)

pub returns : goal.returns
returns c =
    beside_reads (λ p g. (p, g)) (λ v. v) (Some c.in_ok-condition.condition) c.grouped.result c.beside.result
    (split_found (tail_split (WHERE ∷ c.args.tokens.now) c.args.tokens.now refl) c.in_ok-condition.ensures.reads) c.grouped.ensures c.beside.ensures
