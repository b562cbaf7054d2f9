use Rattle.std.proofs.Common.{sym, ◌∙◌}
use Rattle.std.proofs.lemmas.List.Quantifiers.{position-Some}
use Rattle.groups.specs.Pools.{has_all}
use Rattle.groups.proofs.SourcesLemmas.{finer_is_there}
use Rattle.groups.proofs.pool.first_finer.Goals as goal

pub unreachable-requires : goal.unreachable-requires
unreachable-requires g c = finer_is_there c.args.pool.now c.args.set.now c.index_of_finer.result c.requires c.index_of_finer.ensures c.in_default.is

pub returns-clause-finer : goal.returns-clause-finer
returns-clause-finer g c = λ d.
    (position-Some (λ f. has_all f.set.items c.args.set.now) c.args.pool.now c.in-Some.index d (sym c.index_of_finer.ensures ∙ c.in-Some.is)).1
