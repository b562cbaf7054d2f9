use Rattle.std.proofs.Common.{rules}
use Rattle.std.proofs.lemmas.List.Elements.{filter_from_retain}
use Rattle.std.proofs.lemmas.List.Filters.{dedup_is}
use Rattle.groups.proofs.DifferentCellsLemmas.{sorted_once, sorted_same}
use Rattle.groups.proofs.different_cells.once_each.Goals as goal

pub returns-clause-same : goal.returns-clause-same
returns-clause-same c =
    sorted_same c.args.cells.items c.sort_unstable.new.self.items c.dedup.new.self.items c.retain.new.self.items (record {
      moved = c.sort_unstable.ensures.permutation;
      rise = c.sort_unstable.ensures.sorted;
      each = dedup_is _ _ _ c.dedup.ensures.filtered;
      present = filter_from_retain _ _ (λ p x b q k. search rules) _ _ _ c.retain.ensures.filtered;
    })

pub returns-clause-once : goal.returns-clause-once
returns-clause-once c =
    sorted_once c.args.cells.items c.sort_unstable.new.self.items c.dedup.new.self.items c.retain.new.self.items (record {
      moved = c.sort_unstable.ensures.permutation;
      rise = c.sort_unstable.ensures.sorted;
      each = dedup_is _ _ _ c.dedup.ensures.filtered;
      present = filter_from_retain _ _ (λ p x b q k. search rules) _ _ _ c.retain.ensures.filtered;
    })
