use Rattle.std.proofs.Common.{leb, leb-true, leb-false, rules}
use Rattle.std.proofs.lemmas.List.Sorted.{IsPartitionPoint-from_clause, IsPartitionedBy-leb}
use Rattle.trie.specs.Digits.{digit}
use Rattle.trie.proofs.build.end_of.Goals as goal

pub returns-clause-parted : goal.returns-clause-parted
returns-clause-parted g c =
    let parted = IsPartitionedBy-leb (λ one. digit one.hash c.args.depth) _ c.args.most c.requires.rise in
    let point = IsPartitionPoint-from_clause (λ one. leb (digit one.hash c.args.depth) c.args.most) _ _ c.partition_point.ensures.partitioned parted
    (λ a r q k. search rules) in
    (λ k d low lt. leb-true _ _ (point.0 k d low lt), λ k d low lt. leb-false _ _ (point.1 k d low lt))
