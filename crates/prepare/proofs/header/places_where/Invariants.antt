use Rattle.std.proofs.Common.{◌≡◌, ◌++◌, drop, map}
use Rattle.prepare.specs.Parts.{is_name, places_where}
use Rattle.prepare.proofs.header.places_where.Given as goal

abbrev pub invariant-loop-place : goal.invariant-loop-place
invariant-loop-place l =
    places_where (is_name l.case l.name) 0 (map (λ f. f.now) l.header) ≡ l.places.items ++ places_where (is_name l.case l.name) l.place (map (λ f. f.now) (drop l.place l.header))
