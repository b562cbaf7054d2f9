use Rattle.std.proofs.Common.{◌≡◌, List, map, take}
use Rattle.std.specs.List.{AllZip}
use Rattle.serde_json.specs.View.{view}
use Rattle.partials.proofs.lists.all_of.Given as goal

abbrev pub invariant-loop-value : goal.invariant-loop-value
invariant-loop-value g l = (xs : List _) → AllZip g.T.Spelt.spells xs (map view l.values) → l.items.items ≡ take l.value-index xs
