use Rattle.std.proofs.Common.{ap, ◌∙◌}
use Rattle.std.proofs.lemmas.List.{map-id}
use Rattle.query.specs.Truth.{truth}
use Rattle.query.proofs.truth.Predicate+usize.truth_of.Goals as goal

pub returns : goal.returns
returns c = c.truth_over.ensures ∙ ap (truth c.args.self.now) (map-id c.args.values.now)
