use Rattle.std.proofs.Common.{arith, rules}
use Rattle.std.proofs.lemmas.Fmt.{parse-decimal_wide}
use Rattle.partials.proofs.sum.magnitude.Goals as goal

pub returns : goal.returns
returns c = λ n small is.
    let read = parse-decimal_wide 128 n c.args.digits.now c.parse.result small (omega arith) is c.parse.ensures.value.0 in
    search (rules, read)
