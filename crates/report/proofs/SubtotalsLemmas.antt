-- Values that are told by their marks, where no more are left.
use Rattle.std.proofs.Common.{◌≡◌, List, [], ◌∷◌, ◌++◌, map, refl}
use Rattle.std.proofs.lemmas.List.{append-nil}
use Rattle.std.specs.List.{zip}
use Rattle.cells.specs.declared.total.Total.{Total}
use Rattle.report.specs.Subtotals.{told}

no_marks : (left : List Total) → zip {X = Total} left [] ≡ []
no_marks [] = refl
no_marks (value ∷ left) = refl

-- no value is left, or no mark
pub told_values : (all left behind : List Total) → left ≡ [] → all ++ map told (zip left behind) ≡ all
told_values all left behind none = rw none (append-nil all)

pub told_marks : (all left behind : List Total) → behind ≡ [] → all ++ map told (zip left behind) ≡ all
told_marks all left behind none = rw (none, no_marks left) (append-nil all)
