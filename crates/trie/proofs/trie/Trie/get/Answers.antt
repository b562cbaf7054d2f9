use Rattle.std.proofs.Common.{None, Some, ap, sym, ◌∙◌}
use Rattle.trie.specs.Digits.{digit_order}
use Rattle.trie.specs.Holding.{found_in}
use Rattle.trie.specs.Tree.{entries_in}
use Rattle.trie.proofs.FoundLemmas.{value_of_entry}
use Rattle.trie.proofs.trie.Trie.get.Goals as goal

pub returns-in_default : goal.returns-in_default
returns-in_default g c =
    let found = rw (ap entries_in c.seen.ensures ∙ c.self.view_is) at c.get_at.ensures in
    value_of_entry (digit_order g.H.KeyHash.hash_of g.K.Ord.cmp) c.args.self.now c.args.key.now None
    (sym (ap found_in c.in_default.is) ∙ found)

pub returns : goal.returns
returns g c =
    let found = rw (ap entries_in c.seen.ensures ∙ c.self.view_is) at c.get_at.ensures in
    rw c.deref.ensures
    (value_of_entry (digit_order g.H.KeyHash.hash_of g.K.Ord.cmp) c.args.self.now c.args.key.now (Some c.in-Some.entry.now.value)
    (sym (ap found_in c.in-Some.is) ∙ found))
