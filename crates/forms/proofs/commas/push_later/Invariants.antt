use Rattle.std.proofs.Common.{◌≡◌, ◌∷◌, ◌++◌, take}
use Rattle.std.specs.List.{flat_map}
use Rattle.forms.specs.Csv.{csv_field}
use Rattle.forms.proofs.commas.push_later.Given as goal

abbrev pub invariant-loop-total : goal.invariant-loop-total
invariant-loop-total l = l.text.items ≡ l.fn.text.items ++ flat_map (λ total. 44 ∷ csv_field total) (take l.total-index l.totals)
