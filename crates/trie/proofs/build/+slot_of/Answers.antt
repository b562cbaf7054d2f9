use Rattle.std.proofs.Common.{◌≡◌, ◌+◌, ◌<◌, ap, length, sym, arith, rules}
use Rattle.std.proofs.lemmas.List.{length-append}
use Rattle.std.proofs.lemmas.Result.{IfOk-weaker}
use Rattle.trie.specs.Building.{HaveOnePrefix, pairs_in}
use Rattle.trie.specs.Dense.{slots_in}
use Rattle.trie.specs.Digits.{digit_count}
use Rattle.trie.specs.Nodes.{node_of, values}
use Rattle.trie.proofs.BuildLemmas.{branch_fits, branch_made, bucket_made, leaf_made, more_keys, part_below}
use Rattle.trie.proofs.DenseLemmas.{length-slots_of, none_dense}
use Rattle.trie.proofs.MapsLemmas.{hashes}
use Rattle.trie.proofs.RunsLemmas.{begun_all, begun_more, begun_none, digits_rise, rest_below, run_before, run_kept}
use Rattle.trie.proofs.WriteLemmas.{ok_of}
use Rattle.trie.proofs.build.+slot_of.Goals as goal

pub returns-then-have_key_of : goal.returns-then-have_key_of
returns-then-have_key_of g t c =
    let laws = hashes g.met.K.Ord.total g.met.K.Ord.matches_eq g.met.H.KeyHash.respects_eq in
    IfOk-weaker c.uncounted.result _ _
    (λ p made. leaf_made g.H.KeyHash.hash_of g.K.Ord.cmp laws c.args.depth c.args.pairs.now c.in-Some.last.now c.in-Some.ensures.value
    (sym c.if-have_key_of.ensures) c.in_ok-try_clone.field-0.value c.in_ok-try_clone.ensures (node_of p) made) c.uncounted.ensures

pub returns-then-depth-eq-DIGITS : goal.returns-then-depth-eq-DIGITS
returns-then-depth-eq-DIGITS g t c =
    let laws = hashes g.met.K.Ord.total g.met.K.Ord.matches_eq g.met.H.KeyHash.respects_eq in
    let whole : c.args.depth ≡ digit_count = search rules in
    let many = more_keys g.H.KeyHash.hash_of g.K.Ord.cmp laws c.args.pairs.now c.in-Some.last.now c.in-Some.ensures.value
    c.requires.hashed (sym c.if-have_key_of.ensures) in
    IfOk-weaker c.uncounted-then-depth-eq-DIGITS.result _ _
    (λ p made. bucket_made g.H.KeyHash.hash_of g.K.Ord.cmp laws c.args.depth whole (pairs_in c.args.pairs.now) many
    c.in_ok-bucket_of.field-0 c.in_ok-bucket_of.ensures (node_of p) made) c.uncounted-then-depth-eq-DIGITS.ensures

pub loop-digit-init : goal.loop-digit-init
loop-digit-init g t c =
    let none = c.in_ok-made.ensures.none in
    record {
      left = c.requires;
      begun = rw (none.0, none.1) (begun_none g.H.KeyHash.hash_of g.K.Ord.cmp c.args.depth c.args.pairs.now);
      dense = rw (none.0, none.1) none_dense;
    }

pub next_run-requires-clause-rise : goal.next_run-requires-clause-rise
next_run-requires-clause-rise g t c =
    let low : c.args.depth < digit_count = omega (arith, c.requires.low) in
    digits_rise g.H.KeyHash.hash_of c.args.depth c.loop-digit.left.now c.loop-digit.invariant.left low

pub slot_of-child-requires : goal.slot_of-child-requires
slot_of-child-requires g t c κs within =
    let low : c.args.depth < digit_count = omega (arith, c.requires.low) in
    let run = c.in-Some-next_run.field-0 in
    let is = c.in-Some-next_run.ensures in
    let have : HaveOnePrefix g.H.KeyHash.hash_of (c.args.depth + 1) run.pairs.now =
    part_below g.H.KeyHash.hash_of c.args.depth run.digit c.loop-digit.left.now run.pairs.now c.loop-digit.invariant.left low
    (run_kept c.args.depth c.loop-digit.left.now run.digit run.pairs.now run.rest.now is) in
    search rules

pub grown-requires-clause-before : goal.grown-requires-clause-before
grown-requires-clause-before g t c =
    let run = c.in-Some-next_run.field-0 in
    run_before g.H.KeyHash.hash_of g.K.Ord.cmp c.args.depth c.args.pairs.now c.loop-digit.left.now c.loop-digit.made.bitmap _
    c.loop-digit.invariant.begun run.digit run.pairs.now run.rest.now c.in-Some-next_run.ensures

pub loop-digit-preserved : goal.loop-digit-preserved
loop-digit-preserved g t c =
    let run = c.in-Some-next_run.field-0 in
    let is = c.in-Some-next_run.ensures in
    let slots = slots_in c.loop-digit.made.bitmap c.loop-digit.made.children.items in
    let wide = length-slots_of c.loop-digit.made.bitmap (values c.loop-digit.made.children.items) in
    let child = ok_of c.slot_of-child.result _ c.in_ok-made-2.ensures.written in
    record {
      left = rest_below g.H.KeyHash.hash_of c.args.depth c.loop-digit.left.now run.pairs.now run.rest.now c.loop-digit.invariant.left is.joined;
      begun = rw child.2.slots_are
          (begun_more g.H.KeyHash.hash_of g.K.Ord.cmp c.args.depth c.args.pairs.now c.loop-digit.left.now c.loop-digit.made.bitmap slots
          c.loop-digit.invariant.begun run.digit run.pairs.now run.rest.now is c.in_ok-made-2.made.bitmap (node_of child.0) wide
          (rw child.1 at c.slot_of-child.ensures) c.in_ok-made-2.ensures.before);
      dense = child.2.dense;
    }

pub branch_of-requires : goal.branch_of-requires
branch_of-requires g t c =
    let laws = hashes g.met.K.Ord.total g.met.K.Ord.matches_eq g.met.H.KeyHash.respects_eq in
    let low : c.args.depth < digit_count = omega (arith, c.requires.low) in
    let held = c.loop-digit.invariant in
    let each = begun_all g.H.KeyHash.hash_of g.K.Ord.cmp c.args.depth c.args.pairs.now c.loop-digit.left.now c.loop-digit.made.bitmap _ held.begun
    c.in_default-next_run.ensures in
    record {
      fits = branch_fits g.H.KeyHash.hash_of g.K.Ord.cmp laws c.args.depth c.args.pairs.now c.requires low c.loop-digit.made.bitmap
          c.loop-digit.made.children.items held.dense each;
    }

pub returns : goal.returns
returns g t c =
    let laws = hashes g.met.K.Ord.total g.met.K.Ord.matches_eq g.met.H.KeyHash.respects_eq in
    let low : c.args.depth < digit_count = omega (arith, c.requires.low) in
    let held = c.loop-digit.invariant in
    let each = begun_all g.H.KeyHash.hash_of g.K.Ord.cmp c.args.depth c.args.pairs.now c.loop-digit.left.now c.loop-digit.made.bitmap _ held.begun
    c.in_default-next_run.ensures in
    let many = more_keys g.H.KeyHash.hash_of g.K.Ord.cmp laws c.args.pairs.now c.in-Some.last.now c.in-Some.ensures.value
    c.requires.hashed (sym c.if-have_key_of.ensures) in
    IfOk-weaker c.branch_of.result _ _
    (λ p made. branch_made g.H.KeyHash.hash_of g.K.Ord.cmp laws c.args.depth c.args.pairs.now c.requires.hashed low many
    c.loop-digit.made.bitmap c.loop-digit.made.children held.dense each (node_of p) made)
    c.branch_of.ensures.made

pub digits_of-requires : goal.digits_of-requires
digits_of-requires g t c = omega (arith, c.requires.low)

pub next_run-requires-clause-depth : goal.next_run-requires-clause-depth
next_run-requires-clause-depth g t c = omega (arith, c.requires.low)

pub overflow_add-depth : goal.overflow_add-depth
overflow_add-depth g t c = omega (arith, c.requires.low)

pub grown-requires-clause-digit : goal.grown-requires-clause-digit
grown-requires-clause-digit g t c = let is = c.in-Some-next_run.ensures in is.low

pub grown-requires-clause-dense : goal.grown-requires-clause-dense
grown-requires-clause-dense g t c = c.loop-digit.invariant.dense

pub loop-digit-smaller : goal.loop-digit-smaller
loop-digit-smaller g t c =
    let run = c.in-Some-next_run.field-0 in
    let is = c.in-Some-next_run.ensures in
    omega (arith, ap length is.joined, length-append run.pairs.now run.rest.now, is.some)
