use Rattle.std.proofs.Common.{ap, Some}
use Rattle.trie.specs.Nodes.{Several}
use Rattle.trie.proofs.MapsLemmas.{hashes}
use Rattle.trie.proofs.MeetLemmas.{branch_and_bucket, branches_meet, bucket_and_branch, buckets_meet}
use Rattle.trie.proofs.VariantsLemmas.{branch_in}
use Rattle.trie.proofs.meeting.inner_nodes_meet.Goals as goal

pub unreachable-requires : goal.unreachable-requires
unreachable-requires g c =
    let is = ap (λ i. Some (Several i)) c.in-Bucket.is in
    let also = ap (λ i. Some (Several i)) c.in-Branch-other.is in
    bucket_and_branch g.H.KeyHash.hash_of g.K.Ord.cmp (hashes g.met.K.Ord.total g.met.K.Ord.matches_eq g.met.H.KeyHash.respects_eq) (g.B.Blend.asks c.args._blend.now) (g.B.Blend.blend_of c.args._blend.now) c.args.depth _ _ c.requires _ _ _ _ is also

pub unreachable-requires-in-Bucket-other-2 : goal.unreachable-requires-in-Bucket-other-2
unreachable-requires-in-Bucket-other-2 g c =
    let is = ap (λ i. Some (Several i)) c.in-Branch.is in
    let also = ap (λ i. Some (Several i)) c.in-Bucket-other-2.is in
    branch_and_bucket g.H.KeyHash.hash_of g.K.Ord.cmp (hashes g.met.K.Ord.total g.met.K.Ord.matches_eq g.met.H.KeyHash.respects_eq) (g.B.Blend.asks c.args._blend.now) (g.B.Blend.blend_of c.args._blend.now) c.args.depth _ _ c.requires _ _ _ _ is also

pub returns-in-Bucket-other : goal.returns-in-Bucket-other
returns-in-Bucket-other g c =
    let is = ap (λ i. Some (Several i)) c.in-Bucket.is in
    let also = ap (λ i. Some (Several i)) c.in-Bucket-other.is in
    buckets_meet g.H.KeyHash.hash_of g.K.Ord.cmp (hashes g.met.K.Ord.total g.met.K.Ord.matches_eq g.met.H.KeyHash.respects_eq) (g.B.Blend.asks c.args._blend.now) (g.B.Blend.blend_of c.args._blend.now) c.args.depth _ _ c.requires c.in-Bucket.pairs c.in-Bucket-other.more is also

pub returns-in-Branch-other-2 : goal.returns-in-Branch-other-2
returns-in-Branch-other-2 g c =
    let is = ap (λ i. Some (Several i)) c.in-Branch.is in
    let also = ap (λ i. Some (Several i)) c.in-Branch-other-2.is in
    (branches_meet g.H.KeyHash.hash_of g.K.Ord.cmp (hashes g.met.K.Ord.total g.met.K.Ord.matches_eq g.met.H.KeyHash.respects_eq) (g.B.Blend.asks c.args._blend.now) (g.B.Blend.blend_of c.args._blend.now) c.args.depth _ _ c.requires _ _ c.in-Branch.children c.in-Branch-other-2.more _ _ is also, (branch_in g.H.KeyHash.hash_of g.K.Ord.cmp _ _ _ _ _ is c.requires.first_placed).dense, (branch_in g.H.KeyHash.hash_of g.K.Ord.cmp _ _ _ _ _ also c.requires.second_placed).dense)
