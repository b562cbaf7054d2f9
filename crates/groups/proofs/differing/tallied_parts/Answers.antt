use Rattle.groups.specs.Differing.{cells_of_parts, groups_of_parts, lists_of}
use Rattle.groups.proofs.DifferingLemmas.{tallied_lists}
use Rattle.groups.proofs.differing.tallied_parts.Goals as goal

pub returns : goal.returns
returns g c =
    tallied_lists c.args.count (groups_of_parts c.args.parts.now) (cells_of_parts c.args.column.now.cells c.args.parts.now) (lists_of c.in_ok-lists.lists.items) c.in_ok-all_held.field-0.items
    c.in_ok-lists.ensures c.in_ok-all_held.ensures
