use Rattle.std.proofs.Common.{ap, ◌∙◌}
use Rattle.std.proofs.lemmas.List.Filters.{dedup_is}
use Rattle.aggs.specs.Differing.{different}
use Rattle.columns.specs.Columns.{decoded}
use Rattle.groups.proofs.DifferingLemmas.{different_once}
use Rattle.groups.proofs.differing.cells_once.Goals as goal

pub returns : goal.returns
returns c =
    ap different c.in_ok-cells_of_codes.ensures
    ∙ ap (λ codes. different (decoded c.args.column.now.cells codes)) c.as_slice.ensures.value
    ∙ different_once c.args.column.now.cells c.args.codes.items c.sort_unstable.new.self.items c.dedup.new.self.items c.sort_unstable.ensures.permutation
    (dedup_is _ _ _ c.dedup.ensures.filtered)
