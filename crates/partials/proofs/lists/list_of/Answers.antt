use Rattle.std.proofs.Common.{ap, map, subst, sym, ◌∙◌}
use Rattle.std.specs.List.{AllZip}
use Rattle.serde_json.specs.View.{view}
use Rattle.partials.proofs.ListsLemmas.{values_are}
use Rattle.partials.proofs.lists.list_of.Goals as goal

pub returns : goal.returns
returns g c = λ xs spells.
    let are = ap (map view) c.as_slice.ensures.value ∙ values_are spells.items (view c.args.value.now) c.as_array.result c.in-Some.values spells.is c.as_array.ensures c.in-Some.is in
    c.all_of.ensures xs (subst (λ l. AllZip g.T.Spelt.spells xs l) (sym are) spells.each)
