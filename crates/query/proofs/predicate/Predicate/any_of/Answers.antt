use Rattle.std.proofs.Common.{◌∙◌, ap, sym}
use Rattle.query.specs.Trees.{Or, predicates_of}
use Rattle.query.proofs.Trees.{any_of_several}
use Rattle.query.proofs.predicate.Predicate.any_of.Goals as goal

pub returns-in-Err : goal.returns-in-Err
returns-in-Err g c = ap (λ ps. Or (predicates_of ps)) c.in-Err.ensures.0 ∙ sym (any_of_several c.args.predicates.items c.in-Err.ensures.1)
