use Rattle.std.proofs.Common.{◌≡◌, ◌∙◌, [], ap, arith, length, rules, sym}
use Rattle.std.specs.Ordering.{is_lt}
use Rattle.std.proofs.lemmas.Fn.{always_returns_same}
use Rattle.std.proofs.lemmas.List.{length-map, map-append, take_all}
use Rattle.std.proofs.lemmas.List.MinMax.{ranks_by}
use Rattle.trie.specs.Building.{pair_in, pairs_in}
use Rattle.trie.specs.Entries.{with_pairs}
use Rattle.trie.specs.Holding.{pairs_of}
use Rattle.trie.proofs.ListsLemmas.{grown}
use Rattle.trie.proofs.SortLemmas.{in_order_made}
use Rattle.trie.proofs.build.in_key_order.Goals as goal

pub loop-one-preserved : goal.loop-one-preserved
loop-one-preserved g c =
    let more = grown pair_in [] c.args.pairs.now (pairs_of c.loop-one.owners.items) c.loop-one.one-index c.one-item.result
    c.loop-one-test.true c.one-item.is c.loop-one.invariant in
    rw (c.in_ok-push.ensures.items, map-append, c.in_ok-clone.ensures.cases) more

pub returns : goal.returns
returns g c =
    let long : length c.sort_by.new.self.items ≡ length c.loop-one.owners.items =
    omega (arith, c.sort_by.ensures.len, c.sort_by.new.self.ok.0, c.loop-one.owners.ok.0) in
    let stable = c.sort_by.ensures.stable (λ x y. is_lt (g.K.Ord.cmp x.value.0 y.value.0)) (ranks_by g.met.K.Ord.total (λ p. p.value.0))
    (always_returns_same _ _ _ (λ a r same called. search rules)) in
    let all : pairs_of c.loop-one.owners.items ≡ pairs_in c.args.pairs.now =
    rw (sym (take_all c.loop-one.one-index (pairs_in c.args.pairs.now) (omega (arith, c.loop-one-test.false, length-map c.args.pairs.now pair_in)))) c.loop-one.invariant in
    in_order_made g.K.Ord.cmp g.met.K.Ord.total c.loop-one.owners.items c.sort_by.new.self.items stable long
    ∙ ap (λ pairs. with_pairs g.K.Ord.cmp pairs []) all
