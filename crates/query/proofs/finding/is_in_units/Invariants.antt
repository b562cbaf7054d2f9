use Rattle.std.proofs.Common.{◌≡◌, drop}
use Rattle.std.specs.List.{flat_map, list_any}
use Rattle.query.proofs.finding.is_in_units.Given as goal

abbrev pub invariant-loop-unit : goal.invariant-loop-unit
invariant-loop-unit g l = list_any (g.F.Finder.finds l.finder) (flat_map (λ u. u) l.units) ≡ list_any (g.F.Finder.finds l.finder) (flat_map (λ u. u) (drop l.unit-index l.units))
