use Rattle.std.proofs.Common.{ap}
use Rattle.trie.specs.Holding.{seen_in}
use Rattle.trie.specs.Nodes.{owned}
use Rattle.trie.proofs.MapsLemmas.{hashes}
use Rattle.trie.proofs.MeetLemmas.{leaf_first, leaf_second, some_first, some_second}
use Rattle.trie.proofs.VariantsLemmas.{leaf_is}
use Rattle.trie.proofs.meeting.how_they_meet.Goals as goal

pub returns-in-Leaf : goal.returns-in-Leaf
returns-in-Leaf g c =
    let is = leaf_is _ _ _ c.in-Some.is c.in-Leaf.is in
    let some = some_second g.H.KeyHash.hash_of g.K.Ord.cmp (hashes g.met.K.Ord.total g.met.K.Ord.matches_eq g.met.H.KeyHash.respects_eq) (g.B.Blend.asks c.args.blend.now) (g.B.Blend.blend_of c.args.blend.now) c.args.depth _ _ c.requires (owned c.in-Some-second.other.now) (ap seen_in c.in-Some-second.is) in
    leaf_first g.H.KeyHash.hash_of g.K.Ord.cmp (hashes g.met.K.Ord.total g.met.K.Ord.matches_eq g.met.H.KeyHash.respects_eq) (g.B.Blend.asks c.args.blend.now) (g.B.Blend.blend_of c.args.blend.now) c.args.depth _ _ c.requires c.in-Leaf.pair.value some is

pub returns-in-Leaf-other : goal.returns-in-Leaf-other
returns-in-Leaf-other g c =
    let also = leaf_is _ _ _ c.in-Some-second.is c.in-Leaf-other.is in
    let some = some_first g.H.KeyHash.hash_of g.K.Ord.cmp (hashes g.met.K.Ord.total g.met.K.Ord.matches_eq g.met.H.KeyHash.respects_eq) (g.B.Blend.asks c.args.blend.now) (g.B.Blend.blend_of c.args.blend.now) c.args.depth _ _ c.requires (owned c.in-Some.one.now) (ap seen_in c.in-Some.is) in
    leaf_second g.H.KeyHash.hash_of g.K.Ord.cmp (hashes g.met.K.Ord.total g.met.K.Ord.matches_eq g.met.H.KeyHash.respects_eq) (g.B.Blend.asks c.args.blend.now) (g.B.Blend.blend_of c.args.blend.now) c.args.depth _ _ c.requires c.in-Leaf-other.pair.value some also
