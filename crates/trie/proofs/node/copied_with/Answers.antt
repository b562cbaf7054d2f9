use Rattle.std.proofs.Common.{ap}
use Rattle.trie.specs.Dense.{slots_of}
use Rattle.trie.proofs.WriteLemmas.{shared_slots}
use Rattle.trie.proofs.node.copied_with.Goals as goal

pub with_slot-requires : goal.with_slot-requires
with_slot-requires g c =
    let same = ap (slots_of c.args.bitmap) c.in_ok-children.ensures in
    let copy = shared_slots c.args.bitmap c.in_ok-children.children.items c.args.children.now.items c.in_ok-children.ensures c.requires.dense in
    record {
      slots = rw same c.requires.slots;
      dense = copy.dense;
      placed = c.requires.placed;
      some = rw same c.requires.some;
      fits = rw same c.requires.fits;
    }

pub returns-clause-held : goal.returns-clause-held
returns-clause-held g c = rw (ap (slots_of c.args.bitmap) c.in_ok-children.ensures) at c.with_slot.ensures.held
