use Rattle.std.proofs.Common.{◌≡◌, ◌<◌, ◌^◌, ◌++◌, ◌∙◌, ap, append-nil, arith, sym}
use Rattle.std.proofs.lemmas.List.{nil_from_length}
use Rattle.trie.specs.Building.{hashed_pairs}
use Rattle.std.proofs.lemmas.Grind.{common_steps}
use Rattle.std.proofs.lemmas.List.Elements.{All-nil, All-push}
use Rattle.trie.proofs.build.with_hashes.Goals as goal

pub loop-pair-init : goal.loop-pair-init
loop-pair-init g c =
    rw c.in_ok-hashed.ensures.items (record {
      pairs = c.into_iter-pair-iterator.ensures.into_iter_gives.0;
      hashed = All-nil (λ one. one.hash ≡ g.H.KeyHash.hash_of one.pair.0);
      small = All-nil (λ one. one.hash < 2 ^ 64);
    })

pub loop-pair-preserved : goal.loop-pair-preserved
loop-pair-preserved g c =
    let small : c.hash-hash.result < 2 ^ 64 = omega arith in
    record {
      pairs = grind (arith, common_steps);
      hashed = rw c.in_ok-push.ensures.items
          (All-push (λ one. one.hash ≡ g.H.KeyHash.hash_of one.pair.0) _ _ c.loop-pair.invariant.hashed c.hash-hash.ensures);
      small = rw c.in_ok-push.ensures.items (All-push (λ one. one.hash < 2 ^ 64) _ _ c.loop-pair.invariant.small small);
    }

pub returns-clause-hashed : goal.returns-clause-hashed
returns-clause-hashed g c = c.loop-pair.invariant.hashed

pub returns-clause-small : goal.returns-clause-small
returns-clause-small g c = c.loop-pair.invariant.small

pub returns-clause-pairs : goal.returns-clause-pairs
returns-clause-pairs g c =
    let none = nil_from_length c.loop-pair.pair-iterator.rest.items (omega (arith, c.in-None.ensures.steps.0, c.loop-pair.pair-iterator.rest.ok.0)) in
    sym (append-nil (hashed_pairs c.loop-pair.hashed.items)) ∙ ap (λ l. hashed_pairs c.loop-pair.hashed.items ++ l) (sym none) ∙ c.loop-pair.invariant.pairs
