use Rattle.std.proofs.Common.{◌+◌, ◌<◌, ◌^◌, arith, get_or, refl, sym}
use Rattle.std.proofs.lemmas.List.{length-map}
use Rattle.std.proofs.lemmas.Result.{IfOk-weaker}
use Rattle.aggs.specs.Counts.{rows, rows_join, rows_room}
use Rattle.aggs.specs.declared.acc.Acc.TheVariants as acc
use Rattle.aggs.specs.declared.acc.Kind.TheVariants as kind
use Rattle.cells.specs.declared.cell.Cell.TheVariants.{Null}
use Rattle.groups.proofs.TallyingLemmas.{counted_any, fits_cell, null_there, nulls, rows_of, stepped_all, stepped_next, stepped_none, tallied_as}
use Rattle.groups.proofs.TuplesLemmas.{all_at}
use Rattle.groups.proofs.tallying.counted.Goals as goal

pub loop-number-init : goal.loop-number-init
loop-number-init g c = stepped_none rows_of c.args.count c.in_ok-accs.accs.items c.in_ok-accs.ensures

pub index_mut-requires : goal.index_mut-requires
index_mut-requires g c =
    let there : get_or c.args.numbers.now c.loop-number.number-index 0 < c.args.count = all_at (λ n. n < c.args.count) c.args.numbers.now c.loop-number.number-index 0 c.requires.numbers c.loop-number-test.true in
    omega (arith, there, c.loop-number.invariant.counted, c.loop-number.accs.ok.0)

pub step-requires : goal.step-requires
step-requires g c =
    let i = c.loop-number.number-index in
    fits_cell rows_of (λ a b. a.count + b.count < 2 ^ 64) rows_room c.args.count c.args.numbers.now (nulls c.args.numbers.now) c.loop-number.accs.items i (get_or c.args.numbers.now i 0) Null c.index_mut.result.now
    (omega (arith, c.loop-number-test.true, length-map c.args.numbers.now (λ n. Null)))
    (all_at (λ n. n < c.args.count) c.args.numbers.now i 0 c.requires.numbers c.loop-number-test.true) c.index_mut.ensures.value (omega (arith, c.requires.few, length-map c.args.numbers.now (λ n. Null))) c.loop-number.invariant

pub loop-number-preserved : goal.loop-number-preserved
loop-number-preserved g c =
    let i = c.loop-number.number-index in
    stepped_next rows_of (λ a b. rows (a.count + b.count)) rows_join c.args.count c.args.numbers.now (nulls c.args.numbers.now) c.loop-number.accs.items i (get_or c.args.numbers.now i 0) Null c.step.new.self c.index_mut.result.now
    (sym (length-map c.args.numbers.now (λ n. Null))) (omega (arith, c.loop-number-test.true, length-map c.args.numbers.now (λ n. Null))) (null_there c.args.numbers.now i) refl
    (all_at (λ n. n < c.args.count) c.args.numbers.now i 0 c.requires.numbers c.loop-number-test.true) c.index_mut.ensures.value c.loop-number.invariant c.in_ok-step.ensures.stepped

pub returns : goal.returns
returns g c = λ cells same.
    IfOk-weaker c.each_held.result _ _ (λ v made. tallied_as rows_of acc.CountRows kind.CountRows (λ xs. refl) c.args.count c.args.numbers.now cells c.loop-number.accs.items v.items
    (counted_any c.args.count c.args.numbers.now cells c.loop-number.accs.items same
    (stepped_all rows_of c.args.count c.args.numbers.now (nulls c.args.numbers.now) c.loop-number.accs.items c.loop-number.number-index
    (omega (arith, c.loop-number-test.false, c.loop-number.auto.number-index-end))
    (omega (arith, c.loop-number-test.false, c.loop-number.auto.number-index-end, length-map c.args.numbers.now (λ n. Null))) c.loop-number.invariant)) made)
    c.each_held.ensures
