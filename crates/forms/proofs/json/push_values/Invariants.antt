use Rattle.std.proofs.Common.{◌≡◌, ◌∷◌, ◌++◌, take}
use Rattle.std.specs.List.{flat_map}
use Rattle.forms.specs.Json.{json_value}
use Rattle.forms.proofs.json.push_values.Given as goal

abbrev pub invariant-loop-total : goal.invariant-loop-total
invariant-loop-total l = l.text.items ≡ l.fn.text.items ++ flat_map (λ total. 44 ∷ json_value total) (take l.total-index l.totals)
