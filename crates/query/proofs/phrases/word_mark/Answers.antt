use Rattle.query.specs.Grammar.{word}
use Rattle.query.proofs.TestsLemmas.{marked, unmarked}
use Rattle.query.proofs.phrases.word_mark.Goals as goal

pub returns-in-Some-clause-marked : goal.returns-in-Some-clause-marked
returns-in-Some-clause-marked c = marked (word c.args.expected.now) c.args.tokens.now c.in-Some.rest.now c.in-Some.ensures

pub returns-clause-marked : goal.returns-clause-marked
returns-clause-marked c = unmarked (word c.args.expected.now) c.args.tokens.now c.in_default.ensures
