use Rattle.std.proofs.Common.{◌++◌, ◌∙◌, ap, append-nil, arith, map, sym}
use Rattle.std.proofs.lemmas.List.{nil_from_length}
use Rattle.trie.specs.Building.{bare}
use Rattle.std.proofs.lemmas.Grind.{common_steps}
use Rattle.trie.proofs.build.with_owners.Goals as goal

pub loop-hash-init : goal.loop-hash-init
loop-hash-init g c = rw c.in_ok-owned.ensures.items c.into_iter-hash-iterator.ensures.into_iter_gives.0

pub loop-hash-preserved : goal.loop-hash-preserved
loop-hash-preserved g c = grind (arith, common_steps)

pub returns : goal.returns
returns g c =
    let none = nil_from_length c.loop-hash.hash-iterator.rest.items (omega (arith, c.in-None.ensures.steps.0, c.loop-hash.hash-iterator.rest.ok.0)) in
    sym (append-nil (map bare c.loop-hash.owned.items)) ∙ ap (λ l. map bare c.loop-hash.owned.items ++ l) (sym none) ∙ c.loop-hash.invariant
