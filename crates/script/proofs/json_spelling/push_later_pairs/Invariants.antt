use Rattle.std.proofs.Common.{◌≡◌, ◌∷◌, ◌++◌, take}
use Rattle.std.specs.List.{flat_map}
use Rattle.std.specs.Prelude.{string_bytes}
use Rattle.script.specs.JsonSpelling.{shape_pair}
use Rattle.script.proofs.json_spelling.push_later_pairs.Given as goal

abbrev pub invariant-loop-pair : goal.invariant-loop-pair
invariant-loop-pair l = string_bytes l.text ≡ string_bytes l.fn.text ++ flat_map (λ pair. 44 ∷ shape_pair pair) (take l.pair-index l.shape)
