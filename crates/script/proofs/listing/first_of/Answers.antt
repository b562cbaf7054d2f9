use Rattle.std.proofs.Common.{Some, None, arith}
use Rattle.std.proofs.lemmas.Str.Pattern.{split_parts}
use Rattle.script.proofs.ListingsLemmas.{first_between, sole_between}
use Rattle.script.proofs.listing.first_of.Goals as goal

pub returns-in-Some-clause-split : goal.returns-in-Some-clause-split
returns-in-Some-clause-split c =
    let parts = split_parts 32 c.args.text.now (Some (c.in-Some.number, c.in-Some.behind)) c.in-Some.ensures.cases (omega arith) in
    first_between c.args.text.now c.in-Some.number.now c.in-Some.behind.now parts.0 parts.1

pub returns-in-None-clause-split : goal.returns-in-None-clause-split
returns-in-None-clause-split c = sole_between c.args.text.now (split_parts 32 c.args.text.now None c.in-None.ensures.cases (omega arith))
