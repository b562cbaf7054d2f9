use Rattle.std.proofs.Common.{◌≡◌, drop, map}
use Rattle.prepare.specs.Parts.{places_from}
use Rattle.prepare.proofs.HeaderLemmas.{before}
use Rattle.prepare.proofs.header.places_from.Given as goal

abbrev pub invariant-loop-at : goal.invariant-loop-at
invariant-loop-at l = places_from 0 l.columns (map (λ f. f.now) l.header) ≡ before l.places.items (places_from l.at (drop l.at l.columns) (map (λ f. f.now) l.header))
