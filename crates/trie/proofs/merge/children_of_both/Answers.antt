use Rattle.std.proofs.Common.{refl, sym}
use Rattle.trie.proofs.WriteLemmas.{child_none}
use Rattle.trie.proofs.merge.children_of_both.Goals as goal

pub returns-then-not-either_has : goal.returns-then-not-either_has
returns-then-not-either_has g c =
    let off = c.if-not-either_has.ensures.no refl in (
      sym (child_none c.args.first c.args.old.now.items c.requires.first_dense c.args.digit c.requires.digit off.0),
      sym (child_none c.args.second c.args.more.now.items c.requires.second_dense c.args.digit c.requires.digit off.1),
    )

pub returns : goal.returns
returns g c = (c.child_at.ensures, c.child_at-2.ensures)
