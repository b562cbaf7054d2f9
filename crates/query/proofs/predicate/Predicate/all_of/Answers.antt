use Rattle.std.proofs.Common.{◌∙◌, ap, sym}
use Rattle.query.specs.Trees.{And, predicates_of}
use Rattle.query.proofs.Trees.{all_of_several}
use Rattle.query.proofs.predicate.Predicate.all_of.Goals as goal

pub returns-in-Err : goal.returns-in-Err
returns-in-Err g c = ap (λ ps. And (predicates_of ps)) c.in-Err.ensures.0 ∙ sym (all_of_several c.args.predicates.items c.in-Err.ensures.1)
