use Rattle.std.proofs.Common.{inr, refl}
use Rattle.query.specs.Grammar.{rparen}
use Rattle.query.proofs.Lists.{closed, not_closed}
use Rattle.query.proofs.phrases.list_in.Goals as goal

pub returns-in_default-clause-reads : goal.returns-in_default-clause-reads
returns-in_default-clause-reads g c =
    inr (refl, not_closed rparen c.args.tokens.now (λ r. record { no_more = λ us e. cc; apart = tt }) c.in_ok-phrases.ensures.reads c.in_default.ensures)

pub returns-clause-reads : goal.returns-clause-reads
returns-clause-reads g c =
    closed rparen c.args.tokens.now (λ r. record { no_more = λ us e. cc; apart = tt }) c.in_ok-phrases.ensures.reads c.in-Some.behind.now c.in-Some.ensures
