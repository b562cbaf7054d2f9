use Rattle.std.proofs.Common.{◌≡◌, drop}
use Rattle.std.specs.List.{flat_map}
use Rattle.query.specs.Checks.{has_unknown}
use Rattle.query.specs.Names.{item_names}
use Rattle.query.proofs.names.has_unknown_item.Given as goal

abbrev pub invariant-loop-item : goal.invariant-loop-item
invariant-loop-item l = has_unknown l.columns (flat_map item_names l.items) ≡ has_unknown l.columns (flat_map item_names (drop l.item-index l.items))
