use Rattle.std.proofs.Common.{[], ap, subst, sym, ◌∙◌}
use Rattle.std.specs.Prelude.{MatchOption}
use Rattle.std.specs.Option.{option_map}
use Rattle.cells.specs.SameKeys.{exact_tuples}
use Rattle.cells.specs.TupleOrder.{tuple_cmp}
use Rattle.groups.specs.Told.{TellsSet}
use Rattle.groups.proofs.ToldLemmas.{ArePairs, pairs_stand, told_pairs}
use Rattle.groups.proofs.told.trie_of_told.Goals as goal
use Rattle.trie.specs.Maps.{map_of}

pub returns-in_default : goal.returns-in_default
returns-in_default g c = λ columns rows tells.
    let hash = g.H.KeyHash-2.hash_of in
    let told = subst (λ groups. TellsSet c.args.aggregations.now columns rows groups) (sym c.set.view_is) tells in
    subst (λ o. MatchOption o ⊥ (ArePairs hash c.args.aggregations.now columns rows)) (ap (λ o. option_map (λ v. v.items) o) c.in_default.is)
    (told_pairs hash c.args.aggregations.now columns rows c.set.inside.groups.items (option_map (λ v. v.items) c.in_ok-pairs.field-0) told c.in_ok-pairs.ensures)

pub returns : goal.returns
returns g c = λ columns rows tells.
    let hash = g.H.KeyHash-2.hash_of in
    let told = subst (λ groups. TellsSet c.args.aggregations.now columns rows groups) (sym c.set.view_is) tells in
    let are = subst (λ o. MatchOption o ⊥ (ArePairs hash c.args.aggregations.now columns rows)) (ap (λ o. option_map (λ v. v.items) o) c.in-Some.is)
    (told_pairs hash c.args.aggregations.now columns rows c.set.inside.groups.items (option_map (λ v. v.items) c.in_ok-pairs.field-0) told c.in_ok-pairs.ensures) in
    pairs_stand hash c.args.aggregations.now columns rows c.in-Some.pairs.items c.in_ok-from_pairs.field-0 are
    (c.entries_are_a_map.ensures.value c.in_ok-from_pairs.field-0)
    (ap (map_of tuple_cmp) c.in_ok-from_pairs.ensures.map ∙ c.entries_are_a_map.ensures.puts [] c.in-Some.pairs.items exact_tuples)
    c.entries_are_a_map.ensures.nothing
