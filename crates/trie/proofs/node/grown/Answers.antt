use Rattle.std.proofs.Common.{◌≡◌, ◌+◌, ◌<◌, ◌^◌, None, Some, ap, refl, rules}
use Rattle.trie.specs.Digits.{slot_count}
use Rattle.trie.proofs.WriteLemmas.{before_fits, before_more, before_next, written_end, written_last}
use Rattle.trie.specs.Nodes.{node_of, owned}
use Rattle.trie.proofs.node.grown.Goals as goal

pub returns-in_default-clause-written : goal.returns-in_default-clause-written
returns-in_default-clause-written g c =
    let none : node_of c.in_ok-child.field-0 ≡ None = ap node_of c.in_default.is in
    rw (c.in_ok-child.was, none) (written_end c.args.made.bitmap c.args.made.children c.requires.dense c.args.digit c.requires.digit c.requires.before)

pub returns-clause-written : goal.returns-clause-written
returns-clause-written g c =
    let some : node_of c.in_ok-child.field-0 ≡ Some (owned c.in-Some.child) = ap node_of c.in-Some.is in
    rw (c.in_ok-child.was, some) (written_last c.args.made.bitmap c.args.made.children c.requires.dense c.args.digit c.requires.digit c.requires.before
    c.in-Some.child c.push.new.self c.in_ok-push.ensures.items _ (rw c.bit.ensures refl))

pub returns-in_default-clause-before : goal.returns-in_default-clause-before
returns-in_default-clause-before g c = before_next c.args.made.bitmap c.args.digit c.requires.before

pub overflow_add-result : goal.overflow_add-result
overflow_add-result g c =
    let more : c.args.made.bitmap + c.bit.result < 2 ^ slot_count =
    rw c.bit.ensures (before_fits c.args.made.bitmap c.args.digit c.requires.before c.requires.digit c.requires.dense.small) in
    search rules

pub returns-clause-before : goal.returns-clause-before
returns-clause-before g c = rw c.bit.ensures (before_more c.args.made.bitmap c.args.digit c.requires.before)
