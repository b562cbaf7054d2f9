use Rattle.std.proofs.Common.{◌≡◌, arith, get_or, rules}
use Rattle.cells.specs.SameKeys.{same_cells}
use Rattle.cells.specs.declared.cell.Cell.TheVariants.{Null}
use Rattle.groups.proofs.TuplesLemmas.{one_not_picked, one_picked_more, was_false, was_true}
use Rattle.groups.proofs.tuples.is_tuple_of.Goals as goal

pub loop-i-preserved : goal.loop-i-preserved
loop-i-preserved c =
    let x = c.index-tuple-i.result in
    let y = c.unwrap_or-cell.result.now in
    let read : y ≡ get_or c.args.cells.now (get_or c.args.indexes.now c.loop-i.i 0) Null = search rules in
    one_picked_more c.args.cells.now c.args.indexes.now c.args.tuple.now c.loop-i.i x y (omega arith) c.loop-i-test.true c.loop-i.invariant c.index-tuple-i.is read
    (same_cells x y (was_true _ c.if-ne.ensures))

pub returns-then-ne : goal.returns-then-ne
returns-then-ne c =
    let x = c.index-tuple-i.result in
    let y = c.unwrap_or-cell.result.now in
    let read : y ≡ get_or c.args.cells.now (get_or c.args.indexes.now c.loop-i.i 0) Null = search rules in (
      λ e. cc,
      λ e. absurd (one_not_picked c.args.cells.now c.args.indexes.now c.args.tuple.now c.loop-i.i x y (omega arith) c.loop-i-test.true
          c.index-tuple-i.is read (was_false _ c.if-ne.ensures) e),
    )
