use Rattle.std.proofs.Common.{[], ap, arith, ◌∙◌}
use Rattle.cells.specs.TupleOrder.{tuple_cmp}
use Rattle.trie.specs.Digits.{digit_order}
use Rattle.trie.specs.Entries.{with_pairs}
use Rattle.groups.proofs.LayingLemmas.{laid_once}
use Rattle.groups.proofs.laying.made_at_once.Goals as goal

pub returns : goal.returns
returns g c =
    let hash = g.H.KeyHash-2.hash_of in
    laid_once hash (record { value = c.entries_are_a_map.ensures.value; put = c.entries_are_a_map.ensures.put }) c.args.groups.now c.in_ok-trie.trie c.entries_are_a_map.ensures.nothing
    (c.in_ok-trie.ensures.map ∙ ap (λ l. with_pairs (digit_order hash tuple_cmp) l []) c.in_ok-pairs.ensures)
    (c.entries_are_a_map.ensures.len c.in_ok-trie.trie c.keys_rise.ensures) (omega (arith, c.if-len-groups.false, c.len.ensures))
