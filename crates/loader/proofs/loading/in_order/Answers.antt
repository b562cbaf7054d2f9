use Rattle.std.proofs.Common.{◌≡◌, ◌++◌, ◌∙◌, [], ap, arith, refl, rules, sym}
use Rattle.std.proofs.lemmas.List.{append-nil, nil_from_length}
use Rattle.std.proofs.lemmas.List.Sorted.{IsNonDecreasingBy-from_sort_by_key}
use Rattle.std.specs.List.{flat_map}
use Rattle.std.specs.Vec.Iter.{into_iter_items}
use Rattle.loader.specs.Shards.{takes}
use Rattle.loader.proofs.OrderLemmas.{place_of, read_in_order}
use Rattle.loader.proofs.loading.in_order.Goals as goal

pub returns : goal.returns
returns g c =
    let made = c.in_ok-sort_by_key.ensures in
    let all = c.loop-found.all.items in
    let iterator = c.loop-found.found-iterator in
    let none : into_iter_items iterator ≡ [] = nil_from_length (into_iter_items iterator) (omega (arith, iterator.rest.ok, c.in-None.ensures.steps.0)) in
    let gathered : all ≡ flat_map (λ found. found.items) c.args.given.items =
    sym (ap (λ left. all ++ flat_map (λ found. found.items) left) none ∙ append-nil all) ∙ c.loop-found.invariant in
    read_in_order g.H.KeyHash.hash_of (takes g.H.KeyHash.hash_of c.args.shard.now) c.args.schema.now c.args.pieces.now _ c.args.given.items all c.sort_by_key.new.self.items c.requires
    refl gathered made.permutation
    (IsNonDecreasingBy-from_sort_by_key place_of _ made.sorted (λ a r q k. search rules))
