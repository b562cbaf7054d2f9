use Rattle.std.proofs.Common.{rules}
use Rattle.std.proofs.lemmas.Result.{IfOk-weaker}
use Rattle.trie.proofs.BucketsLemmas.{next_asked, next_equal, next_greater, next_less, next_new, next_old, one_next}
use Rattle.trie.proofs.merge.next_of_both.Goals as goal

pub returns-in_default : goal.returns-in_default
returns-in_default g c =
    let next =
    next_new g.H.KeyHash.hash_of g.K.Ord.cmp (g.B.Blend.blend_of c.args.blend.now) g.met.K.Ord.total (g.B.Blend.asks c.args.blend.now) c.args.first.now c.args.second.now c.requires.first_rises c.requires.second_rises c.requires.can
    c.in_default.ensures.cases c.in-Some-split_first.new.now c.in-Some-split_first.newer.now c.in-Some-split_first.ensures.cases.0 in
    IfOk-weaker c.next_of_one.result _ _ (one_next g.H.KeyHash.hash_of g.K.Ord.cmp (g.B.Blend.asks c.args.blend.now) (g.B.Blend.blend_of c.args.blend.now) _ _ _ _ next) c.next_of_one.ensures

pub returns-in_default-split_first-2 : goal.returns-in_default-split_first-2
returns-in_default-split_first-2 g c =
    let next =
    next_old g.H.KeyHash.hash_of g.K.Ord.cmp (g.B.Blend.blend_of c.args.blend.now) g.met.K.Ord.total (g.B.Blend.asks c.args.blend.now) c.args.first.now c.args.second.now c.requires.first_rises c.requires.second_rises c.requires.can
    c.in-Some.old.now c.in-Some.older.now c.in-Some.ensures.cases.0 c.in_default-split_first-2.ensures.cases in
    IfOk-weaker c.next_of_one-in_default-split_first-2.result _ _ (one_next g.H.KeyHash.hash_of g.K.Ord.cmp (g.B.Blend.asks c.args.blend.now) (g.B.Blend.blend_of c.args.blend.now) _ _ _ _ next) c.next_of_one-in_default-split_first-2.ensures

pub blended_pair-requires-clause-can : goal.blended_pair-requires-clause-can
blended_pair-requires-clause-can g c =
    next_asked g.H.KeyHash.hash_of g.K.Ord.cmp (g.B.Blend.blend_of c.args.blend.now) g.met.K.Ord.total (g.B.Blend.asks c.args.blend.now) c.args.first.now c.args.second.now c.requires.first_rises c.requires.second_rises c.requires.can
    c.in-Some.old.now c.in-Some.older.now c.in-Some.ensures.cases.0 c.in-Some-split_first-2.new.now c.in-Some-split_first-2.newer.now c.in-Some-split_first-2.ensures.cases.0 (search rules)

pub returns-in-Less : goal.returns-in-Less
returns-in-Less g c =
    let next =
    next_less g.H.KeyHash.hash_of g.K.Ord.cmp (g.B.Blend.blend_of c.args.blend.now) g.met.K.Ord.total (g.B.Blend.asks c.args.blend.now) c.args.first.now c.args.second.now c.requires.first_rises c.requires.second_rises c.requires.can
    c.in-Some.old.now c.in-Some.older.now c.in-Some.ensures.cases.0 c.in-Some-split_first-2.new.now c.in-Some-split_first-2.newer.now c.in-Some-split_first-2.ensures.cases.0 (search rules) in
    IfOk-weaker c.next_of_one-in-Less.result _ _ (one_next g.H.KeyHash.hash_of g.K.Ord.cmp (g.B.Blend.asks c.args.blend.now) (g.B.Blend.blend_of c.args.blend.now) _ _ _ _ next) c.next_of_one-in-Less.ensures

pub returns-in_ok-pair-in-Equal : goal.returns-in_ok-pair-in-Equal
returns-in_ok-pair-in-Equal g c =
    next_equal g.H.KeyHash.hash_of g.K.Ord.cmp (g.B.Blend.blend_of c.args.blend.now) g.met.K.Ord.total (g.B.Blend.asks c.args.blend.now) c.args.first.now c.args.second.now c.requires.first_rises c.requires.second_rises c.requires.can
    c.in-Some.old.now c.in-Some.older.now c.in-Some.ensures.cases.0 c.in-Some-split_first-2.new.now c.in-Some-split_first-2.newer.now c.in-Some-split_first-2.ensures.cases.0 (search rules) _ c.in_ok-pair-in-Equal.ensures

pub returns-in-Greater : goal.returns-in-Greater
returns-in-Greater g c =
    let next =
    next_greater g.H.KeyHash.hash_of g.K.Ord.cmp (g.B.Blend.blend_of c.args.blend.now) g.met.K.Ord.total (g.B.Blend.asks c.args.blend.now) c.args.first.now c.args.second.now c.requires.first_rises c.requires.second_rises c.requires.can
    c.in-Some.old.now c.in-Some.older.now c.in-Some.ensures.cases.0 c.in-Some-split_first-2.new.now c.in-Some-split_first-2.newer.now c.in-Some-split_first-2.ensures.cases.0 (search rules) in
    IfOk-weaker c.next_of_one-in-Greater.result _ _ (one_next g.H.KeyHash.hash_of g.K.Ord.cmp (g.B.Blend.asks c.args.blend.now) (g.B.Blend.blend_of c.args.blend.now) _ _ _ _ next) c.next_of_one-in-Greater.ensures
