use Rattle.std.proofs.Common.{◌<◌, arith, rules}
use Rattle.trie.specs.Digits.{digit_count}
use Rattle.trie.proofs.SortLemmas.{number_bound, number_fits, number_more}
use Rattle.trie.proofs.digits.digits_number.Goals as goal

pub overflow_mul-number : goal.overflow_mul-number
overflow_mul-number c =
    let bound = number_bound c.loop-depth.number 0 c.loop-depth.depth c.loop-depth.invariant.small (omega arith) (search rules) in
    omega (arith, bound)

pub overflow_add-number : goal.overflow_add-number
overflow_add-number c =
    let bound = number_bound c.loop-depth.number c.digit_at.result c.loop-depth.depth c.loop-depth.invariant.small c.digit_at.ensures.bound (search rules) in
    omega (arith, bound)

pub loop-depth-preserved : goal.loop-depth-preserved
loop-depth-preserved c =
    let low : c.loop-depth.depth < digit_count = omega arith in
    let more = number_more c.args.hash c.loop-depth.depth c.loop-depth.number low c.loop-depth.invariant.is in
    record {
      is = rw c.digit_at.ensures.value more;
      small = number_fits c.loop-depth.number c.digit_at.result c.loop-depth.depth c.loop-depth.invariant.small c.digit_at.ensures.bound;
    }
