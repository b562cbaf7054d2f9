use Rattle.std.proofs.Common.{◌∷◌, [], ap, arith, length}
use Rattle.std.proofs.lemmas.List.{length-map}
use Rattle.serde_json.specs.View.{view}
use Rattle.partials.proofs.ListsLemmas.{values_are}
use Rattle.partials.proofs.lists.both_of.Goals as goal

pub returns-then-len-ne2 : goal.returns-then-len-ne2
returns-then-len-ne2 c = λ a b is.
    let two = values_are (a ∷ b ∷ []) (view c.args.value.now) c.as_array.result c.in-Some.values is c.as_array.ensures c.in-Some.is in
    omega (arith, ap length two, length-map c.in-Some.values.now.items view, c.len.ensures, c.if-len-ne2.true)
