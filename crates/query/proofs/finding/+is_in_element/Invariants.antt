use Rattle.std.proofs.Common.{◌≡◌, drop}
use Rattle.std.specs.List.{list_any}
use Rattle.query.specs.Names.{element_names, names_of_each}
use Rattle.query.specs.Trees.{elements_of}
use Rattle.query.proofs.finding.+is_in_element.Given as goal

abbrev pub invariant-loop-inner : goal.invariant-loop-inner
invariant-loop-inner g l = list_any (g.F.Finder.finds l.finder) (element_names l.element) ≡ list_any (g.F.Finder.finds l.finder) (names_of_each (elements_of (drop l.inner-index l.inner-items)))
