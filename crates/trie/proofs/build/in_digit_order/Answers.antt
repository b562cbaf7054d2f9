use Rattle.std.proofs.Common.{rules}
use Rattle.std.proofs.lemmas.List.Sorted.{answers_always}
use Rattle.trie.specs.Digits.{digits_number}
use Rattle.trie.proofs.build.in_digit_order.Goals as goal

pub returns-clause-sorted : goal.returns-clause-sorted
returns-clause-sorted g c =
    c.in_ok-sort_by_cached_key.ensures.sorted (λ one. digits_number one.hash) (answers_always _ _ _ (λ f a r q k. search rules))

pub returns-clause-stable : goal.returns-clause-stable
returns-clause-stable g c =
    c.in_ok-sort_by_cached_key.ensures.stable (λ one. digits_number one.hash) (answers_always _ _ _ (λ f a r q k. search rules))
