use Rattle.std.proofs.Common.{◌≡◌, ◌<◌, ◌^◌, true, false, [], ◌∷◌, length, ap, refl, ◌∙◌, arith, rules}
use Rattle.std.proofs.lemmas.Result.{IfOk-weaker, err_from_is_err_and}
use Rattle.std.specs.Ordering.{is_eq}
use Rattle.trie.specs.Dense.{slots_in}
use Rattle.trie.specs.Holding.{prefix_of, seen_in}
use Rattle.trie.specs.Tree.{entries_in}
use Rattle.trie.proofs.CountLemmas.{counts_above, counts_below}
use Rattle.trie.proofs.OrderLemmas.{same_hash, told_equal, value_at-order, without_key-order}
use Rattle.trie.proofs.SlotsLemmas.{value_at-below, without_key-below, without_key-bounds, without_key-missing}
use Rattle.trie.proofs.RemoveLemmas.{left_without, value_alone}
use Rattle.trie.proofs.VariantsLemmas.{branch_in, bucket_in, leaf_in}
use Rattle.trie.proofs.remove.+remove_at.Goals as goal

pub step-requires-clause-dense : goal.step-requires-clause-dense
step-requires-clause-dense g t c =
    (branch_in g.H.KeyHash.hash_of g.K.Ord.cmp (seen_in c.args.slot) (prefix_of c.args.at) _ c.in-Branch.bitmap c.in-Branch.children.now c.in-Branch.ensures c.requires.placed).dense

pub step-requires-clause-slots : goal.step-requires-clause-slots
step-requires-clause-slots g t c =
    (branch_in g.H.KeyHash.hash_of g.K.Ord.cmp (seen_in c.args.slot) (prefix_of c.args.at) _ c.in-Branch.bitmap c.in-Branch.children.now c.in-Branch.ensures c.requires.placed).slots_are

pub remove_at-requires : goal.remove_at-requires
remove_at-requires g t c =
    let branch = branch_in g.H.KeyHash.hash_of g.K.Ord.cmp (seen_in c.args.slot) (prefix_of c.args.at) _ c.in-Branch.bitmap c.in-Branch.children.now c.in-Branch.ensures c.requires.placed in
    let fits : length (entries_in (seen_in c.step.result.0)) < 2 ^ 64 =
    omega (arith, c.step.ensures.fewer, ap length branch.entries_are, c.requires.fits) in
    search rules

pub returns-in_default-clause-map : goal.returns-in_default-clause-map
returns-in_default-clause-map g t c =
    let branch = branch_in g.H.KeyHash.hash_of g.K.Ord.cmp (seen_in c.args.slot) (prefix_of c.args.at) _ c.in-Branch.bitmap c.in-Branch.children.now c.in-Branch.ensures c.requires.placed in
    rw branch.entries_are
    (without_key-missing g.H.KeyHash.hash_of g.K.Ord.cmp c.args.at.hash c.args.at.depth c.args.at.within (slots_in c.in-Branch.bitmap c.in-Branch.children.now.items) branch.slots_are c.args.key.now
    c.requires.hashed (seen_in c.step.result.0) c.step.ensures.slot (rw c.in_default.is at c.in_ok-rest-in-Branch.ensures.map))

pub left_with-requires : goal.left_with-requires
left_with-requires g t c =
    let branch = branch_in g.H.KeyHash.hash_of g.K.Ord.cmp (seen_in c.args.slot) (prefix_of c.args.at) _ c.in-Branch.bitmap c.in-Branch.children.now c.in-Branch.ensures c.requires.placed in
    let rest = rw c.in-Left.is at c.in_ok-rest-in-Branch.ensures.map in
    let bounds =
    without_key-bounds g.H.KeyHash.hash_of g.K.Ord.cmp c.args.at.hash c.args.at.depth c.args.at.within (slots_in c.in-Branch.bitmap c.in-Branch.children.now.items) branch.slots_are c.args.key.now
    c.requires.hashed (seen_in c.step.result.0) c.step.ensures.slot _ rest.entries_are in
    record {
      slots = branch.slots_are;
      dense = branch.dense;
      placed = rw (c.step.ensures.hash, c.step.ensures.depth) at rest.placed;
      some = omega (arith, branch.many, bounds.1);
      fits = omega (arith, bounds.0, ap length branch.entries_are, c.requires.fits);
    }

pub returns-then-is_eq-clause-map : goal.returns-then-is_eq-clause-map
returns-then-is_eq-clause-map g t c =
    let leaf = leaf_in g.H.KeyHash.hash_of g.K.Ord.cmp (seen_in c.args.slot) (prefix_of c.args.at) c.in-Leaf.pair.now.value c.in-Leaf.ensures c.requires.placed in
    let same = same_hash g.H.KeyHash.hash_of g.K.Ord.cmp g.K.PartialEq.eq g.met.K.Ord.matches_eq g.met.H.KeyHash.respects_eq in
    let equal = told_equal g.K.Ord.cmp c.args.key.now (λ x. x.0) c.deref.result.now c.in-Leaf.pair.now.value c.cmp.result c.is_eq.result true c.deref.ensures c.cmp.ensures c.is_eq.ensures c.if-is_eq.true in
    record { placed = tt; entries_are = rw (leaf.entries_are, without_key-order g.H.KeyHash.hash_of g.K.Ord.cmp same c.args.key.now (c.in-Leaf.pair.now.value ∷ []), equal) refl }

pub returns-in-Left-clause-map : goal.returns-in-Left-clause-map
returns-in-Left-clause-map g t c =
    let branch = branch_in g.H.KeyHash.hash_of g.K.Ord.cmp (seen_in c.args.slot) (prefix_of c.args.at) _ c.in-Branch.bitmap c.in-Branch.children.now c.in-Branch.ensures c.requires.placed in
    let rest = rw c.in-Left.is at c.in_ok-rest-in-Branch.ensures.map in
    let whole =
    without_key-below g.H.KeyHash.hash_of g.K.Ord.cmp c.args.at.hash c.args.at.depth c.args.at.within (slots_in c.in-Branch.bitmap c.in-Branch.children.now.items) branch.slots_are c.args.key.now
    c.requires.hashed (seen_in c.step.result.0) c.step.ensures.slot _ rest.entries_are in
    IfOk-weaker c.left_with.result _ _
    (λ r left. rw branch.entries_are (left_without g.H.KeyHash.hash_of g.K.Ord.cmp c.args.at c.args.key.now _ _ r whole left)) c.left_with.ensures.left

pub returns-in_err-rest-in-Branch-clause-missed : goal.returns-in_err-rest-in-Branch-clause-missed
returns-in_err-rest-in-Branch-clause-missed g t c = λ none.
    let branch = branch_in g.H.KeyHash.hash_of g.K.Ord.cmp (seen_in c.args.slot) (prefix_of c.args.at) _ c.in-Branch.bitmap c.in-Branch.children.now c.in-Branch.ensures c.requires.placed in
    let below =
    value_at-below g.H.KeyHash.hash_of g.K.Ord.cmp c.args.at.hash c.args.at.depth c.args.at.within (slots_in c.in-Branch.bitmap c.in-Branch.children.now.items) branch.slots_are c.args.key.now
    c.requires.hashed (seen_in c.step.result.0) c.step.ensures.slot in
    let missed = c.in_err-rest-in-Branch.ensures.missed (below ∙ rw branch.entries_are at none) in
    let err = err_from_is_err_and c.from_residual.result c.from_residual.ensures.1 in
    rw err.1 missed

pub returns-in_default-clause-missed : goal.returns-in_default-clause-missed
returns-in_default-clause-missed g t c = λ none.
    let branch = branch_in g.H.KeyHash.hash_of g.K.Ord.cmp (seen_in c.args.slot) (prefix_of c.args.at) _ c.in-Branch.bitmap c.in-Branch.children.now c.in-Branch.ensures c.requires.placed in
    let below =
    value_at-below g.H.KeyHash.hash_of g.K.Ord.cmp c.args.at.hash c.args.at.depth c.args.at.within (slots_in c.in-Branch.bitmap c.in-Branch.children.now.items) branch.slots_are c.args.key.now
    c.requires.hashed (seen_in c.step.result.0) c.step.ensures.slot in
    (rw c.in_default.is at c.in_ok-rest-in-Branch.ensures.missed) (below ∙ rw branch.entries_are at none)

pub returns-in-Left-clause-missed : goal.returns-in-Left-clause-missed
returns-in-Left-clause-missed g t c = λ none.
    let branch = branch_in g.H.KeyHash.hash_of g.K.Ord.cmp (seen_in c.args.slot) (prefix_of c.args.at) _ c.in-Branch.bitmap c.in-Branch.children.now c.in-Branch.ensures c.requires.placed in
    let below =
    value_at-below g.H.KeyHash.hash_of g.K.Ord.cmp c.args.at.hash c.args.at.depth c.args.at.within (slots_in c.in-Branch.bitmap c.in-Branch.children.now.items) branch.slots_are c.args.key.now
    c.requires.hashed (seen_in c.step.result.0) c.step.ensures.slot in
    absurd ((rw c.in-Left.is at c.in_ok-rest-in-Branch.ensures.missed) (below ∙ rw branch.entries_are at none))

pub returns-then-is_eq-clause-missed : goal.returns-then-is_eq-clause-missed
returns-then-is_eq-clause-missed g t c = λ none.
    let leaf = leaf_in g.H.KeyHash.hash_of g.K.Ord.cmp (seen_in c.args.slot) (prefix_of c.args.at) c.in-Leaf.pair.now.value c.in-Leaf.ensures c.requires.placed in
    let same = same_hash g.H.KeyHash.hash_of g.K.Ord.cmp g.K.PartialEq.eq g.met.K.Ord.matches_eq g.met.H.KeyHash.respects_eq in
    let here = rw (leaf.entries_are, value_at-order g.H.KeyHash.hash_of g.K.Ord.cmp same c.args.key.now (c.in-Leaf.pair.now.value ∷ [])) at none in
    let found : is_eq (g.K.Ord.cmp c.args.key.now c.in-Leaf.pair.now.value.0) ≡ true =
    told_equal g.K.Ord.cmp c.args.key.now (λ x. x.0) c.deref.result.now c.in-Leaf.pair.now.value c.cmp.result c.is_eq.result true c.deref.ensures c.cmp.ensures c.is_eq.ensures c.if-is_eq.true in
    value_alone (λ k. is_eq (g.K.Ord.cmp c.args.key.now k)) c.in-Leaf.pair.now.value found here

pub returns-in_err-rest-in-Branch-clause-counted : goal.returns-in_err-rest-in-Branch-clause-counted
returns-in_err-rest-in-Branch-clause-counted g t c = counts_below _ _ _ _ c.step.ensures.depth c.remove_at.ensures.counted

pub returns-in_default-clause-counted : goal.returns-in_default-clause-counted
returns-in_default-clause-counted g t c = counts_below _ _ _ _ c.step.ensures.depth c.remove_at.ensures.counted

pub returns-in-Left-clause-counted : goal.returns-in-Left-clause-counted
returns-in-Left-clause-counted g t c =
    counts_above _ _ _ _ _ c.step.ensures.depth c.remove_at.ensures.counted c.left_with.ensures.counted

pub remove_from_bucket-requires-clause-hashed : goal.remove_from_bucket-requires-clause-hashed
remove_from_bucket-requires-clause-hashed g t c = c.requires.hashed

pub remove_from_bucket-requires-clause-placed : goal.remove_from_bucket-requires-clause-placed
remove_from_bucket-requires-clause-placed g t c = rw c.in-Bucket.ensures at c.requires.placed

pub returns-in_err-rest-in-Branch-clause-grows : goal.returns-in_err-rest-in-Branch-clause-grows
returns-in_err-rest-in-Branch-clause-grows g t c = c.remove_at.ensures.grows

pub returns-in_default-clause-grows : goal.returns-in_default-clause-grows
returns-in_default-clause-grows g t c = c.remove_at.ensures.grows

pub returns-in-Empty-clause-map : goal.returns-in-Empty-clause-map
returns-in-Empty-clause-map g t c = rw c.in-Empty.ensures refl

pub returns-in-Empty-clause-missed : goal.returns-in-Empty-clause-missed
returns-in-Empty-clause-missed g t c = λ none. refl

pub returns-in-Empty-clause-counted : goal.returns-in-Empty-clause-counted
returns-in-Empty-clause-counted g t c = omega (arith, c.args.at.within)

pub returns-then-is_eq-clause-counted : goal.returns-then-is_eq-clause-counted
returns-then-is_eq-clause-counted g t c = omega (arith, c.args.at.within)

pub returns-else-is_eq-clause-map : goal.returns-else-is_eq-clause-map
returns-else-is_eq-clause-map g t c =
    let leaf = leaf_in g.H.KeyHash.hash_of g.K.Ord.cmp (seen_in c.args.slot) (prefix_of c.args.at) c.in-Leaf.pair.now.value c.in-Leaf.ensures c.requires.placed in
    let same = same_hash g.H.KeyHash.hash_of g.K.Ord.cmp g.K.PartialEq.eq g.met.K.Ord.matches_eq g.met.H.KeyHash.respects_eq in
    let other = told_equal g.K.Ord.cmp c.args.key.now (λ x. x.0) c.deref.result.now c.in-Leaf.pair.now.value c.cmp.result c.is_eq.result false c.deref.ensures c.cmp.ensures c.is_eq.ensures c.if-is_eq.false in
    rw (leaf.entries_are, without_key-order g.H.KeyHash.hash_of g.K.Ord.cmp same c.args.key.now (c.in-Leaf.pair.now.value ∷ []), other) refl

pub returns-else-is_eq-clause-missed : goal.returns-else-is_eq-clause-missed
returns-else-is_eq-clause-missed g t c = λ none. refl

pub returns-else-is_eq-clause-counted : goal.returns-else-is_eq-clause-counted
returns-else-is_eq-clause-counted g t c = omega (arith, c.args.at.within)

pub returns-in-Bucket-clause-map : goal.returns-in-Bucket-clause-map
returns-in-Bucket-clause-map g t c =
    let bucket = bucket_in g.H.KeyHash.hash_of g.K.Ord.cmp (seen_in c.args.slot) (prefix_of c.args.at) c.in-Bucket.pairs.now c.in-Bucket.ensures c.requires.placed in
    rw bucket.entries_are c.remove_from_bucket.ensures.map

pub returns-in-Bucket-clause-missed : goal.returns-in-Bucket-clause-missed
returns-in-Bucket-clause-missed g t c =
    let bucket = bucket_in g.H.KeyHash.hash_of g.K.Ord.cmp (seen_in c.args.slot) (prefix_of c.args.at) c.in-Bucket.pairs.now c.in-Bucket.ensures c.requires.placed in
    rw bucket.entries_are c.remove_from_bucket.ensures.missed

pub returns-in-Bucket-clause-counted : goal.returns-in-Bucket-clause-counted
returns-in-Bucket-clause-counted g t c = omega (arith, c.remove_from_bucket.ensures.counted, c.args.at.within)

pub returns-in-Bucket-clause-grows : goal.returns-in-Bucket-clause-grows
returns-in-Bucket-clause-grows g t c = c.remove_from_bucket.ensures.grows

pub returns-in-Left-clause-grows : goal.returns-in-Left-clause-grows
returns-in-Left-clause-grows g t c = omega (arith, c.remove_at.ensures.grows, c.left_with.ensures.grows)
