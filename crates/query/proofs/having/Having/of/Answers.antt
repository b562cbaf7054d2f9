use Rattle.std.proofs.Common.{rules}
use Rattle.query.proofs.ResolvingLemmas.{having_made}
use Rattle.query.proofs.having.Having.of.Goals as goal

pub returns : goal.returns
returns c = having_made c.args.predicate c.new.result.items c.taken.inside.items.items c.in_ok-predicate.predicate (search rules) (search rules) (search rules)
