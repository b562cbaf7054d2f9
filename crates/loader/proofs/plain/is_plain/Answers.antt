use Rattle.loader.proofs.PlainLemmas.{plain_exactly, plain_text}
use Rattle.loader.proofs.plain.is_plain.Goals as goal

pub returns-in-Some-clause-record : goal.returns-in-Some-clause-record
returns-in-Some-clause-record c =
    plain_text c.args.text.now c.in-Some.first.now c.has_special.result c.in-Some.ensures.value c.if-first.true c.has_special.ensures

pub returns-in-Some-clause-exact : goal.returns-in-Some-clause-exact
returns-in-Some-clause-exact c =
    plain_exactly c.args.text.now c.in-Some.first.now c.has_special.result c.in-Some.ensures.value c.if-first.true c.has_special.ensures
