use Rattle.std.proofs.Common.{◌≡◌, drop}
use Rattle.std.specs.List.{flat_map, list_any}
use Rattle.query.specs.Names.{element_names}
use Rattle.query.proofs.finding.is_in_elements.Given as goal

abbrev pub invariant-loop-element : goal.invariant-loop-element
invariant-loop-element g l = list_any (g.F.Finder.finds l.finder) (flat_map element_names l.elements) ≡ list_any (g.F.Finder.finds l.finder) (flat_map element_names (drop l.element-index l.elements))
