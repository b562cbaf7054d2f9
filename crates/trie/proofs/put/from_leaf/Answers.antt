use Rattle.std.proofs.Common.{◌<◌, ◌≡◌, true, false, List, [], ◌∷◌, set, ap, ap₂, ◌∙◌, rules, replicate, Option, None, Some}
use Rattle.trie.specs.Digits.{digit_count, slot_count}
use Rattle.trie.specs.Dense.{slots_of}
use Rattle.trie.specs.Nodes.{Leaf, Node, values}
use Rattle.trie.proofs.DenseLemmas.{none_dense, slots_of-none}
use Rattle.trie.proofs.OrderLemmas.{same_hash, told_both}
use Rattle.trie.proofs.PutLemmas.{bucket_holds, leaf_holds, spread, with_pair-equal, with_pair-two}
use Rattle.trie.proofs.put.from_leaf.Goals as goal

pub returns-then-is_eq : goal.returns-then-is_eq
returns-then-is_eq g c =
    let same = same_hash g.H.KeyHash.hash_of g.K.Ord.cmp g.K.PartialEq.eq g.met.K.Ord.matches_eq g.met.H.KeyHash.respects_eq in
    let equal =
    with_pair-equal g.H.KeyHash.hash_of g.K.Ord.cmp same c.args.pair.now.value.0 c.args.pair.now.value.1
    c.args.old.now.value
    (told_both g.K.Ord.cmp (λ x. x.0) c.deref.result.now c.args.pair.now.value c.deref-2.result.now c.args.old.now.value c.cmp.result c.is_eq.result true c.deref.ensures c.deref-2.ensures c.cmp.ensures c.is_eq.ensures c.if-is_eq.true) in
    let leaf =
    leaf_holds g.H.KeyHash.hash_of g.K.Ord.cmp c.in_ok-try_clone.field-0.value c.args.at.hash c.args.at.depth
    (rw c.in_ok-try_clone.ensures c.requires.hashed) in
    rw (← equal, ← c.in_ok-try_clone.ensures) leaf

pub returns-then-is_whole : goal.returns-then-is_whole
returns-then-is_whole g c =
    let two =
    with_pair-two g.H.KeyHash.hash_of g.K.Ord.cmp c.args.pair.now.value.0 c.args.pair.now.value.1
    c.args.old.now.value
    (told_both g.K.Ord.cmp (λ x. x.0) c.deref.result.now c.args.pair.now.value c.deref-2.result.now c.args.old.now.value c.cmp.result c.is_eq.result false c.deref.ensures c.deref-2.ensures c.cmp.ensures c.is_eq.ensures c.if-is_eq.false) in
    bucket_holds g.H.KeyHash.hash_of g.K.Ord.cmp g.met.K.Ord.total c.args.pair.now.value.0
    c.args.pair.now.value.1 c.args.at.hash c.args.at.depth c.requires.hashed (search rules)
    (c.args.old.now.value ∷ []) (tt, tt) (c.requires.placed, tt) two c.in_ok-pairs.pairs
    c.in_ok-pairs.ensures

pub written-requires-clause-dense : goal.written-requires-clause-dense
written-requires-clause-dense g c = rw c.new.ensures.items none_dense

pub returns : goal.returns
returns g c =
    let lt : c.args.at.depth < digit_count = search rules in
    let written = c.in_ok-made.ensures in
    let none : slots_of 0 (values c.new.result.items) ≡ replicate slot_count None =
    ap (λ l. slots_of 0 (values l)) c.new.ensures.items ∙ slots_of-none (Node g.row.K.Denot g.row.V.Denot) in
    let slots =
    spread g.H.KeyHash.hash_of g.K.Ord.cmp c.args.at.hash c.args.at.depth lt c.args.old.now.value c.hash.result
    (rw c.deref-3.ensures at c.hash.ensures) c.requires.placed c.next_of-digit.result c.next_of-digit.ensures.value _
    (written.slots_are ∙ ap₂ (λ (slots : List (Option (Node g.row.K.Denot g.row.V.Denot))) (pair : g.row.K.Denot × g.row.V.Denot). set slots c.next_of-digit.result (Some (Leaf pair)))
    none c.in_ok-try_clone-2.ensures) in
    (slots.slots_are, slots.entries_are, written.dense)
