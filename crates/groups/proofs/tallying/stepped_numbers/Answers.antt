use Rattle.std.proofs.Common.{◌≡◌, ◌<◌, List, ℕ, arith, get_or, length, refl, sym, ◌∙◌}
use Rattle.std.specs.Prelude.{None}
use Rattle.cells.specs.declared.cell.Cell.{Cell}
use Rattle.columns.specs.Columns.{decoded}
use Rattle.groups.specs.Parting.{codes_at}
use Rattle.groups.proofs.TallyingLemmas.{cell_there, decoded_length, fits_cell, stepped_all, stepped_next, stepped_none}
use Rattle.groups.proofs.TuplesLemmas.{all_at}
use Rattle.groups.proofs.tallying.stepped_numbers.Goals as goal

pub step-requires : goal.step-requires
step-requires g c =
    let i = c.loop-at.at in
    let rows : List ℕ = c.args.rows.now in
    let all : List Cell = decoded None (codes_at c.args.codes.now rows) in
    let cell : Cell = c.number_cell-cell.result in
    let within : i < length all = omega (arith, c.loop-at-test.true, decoded_length None c.args.codes.now rows) in
    let below : get_or c.args.numbers.now i 0 < c.args.count =
    all_at (λ n. n < c.args.count) c.args.numbers.now i 0 c.requires.numbers.1 (omega (arith, c.loop-at-test.true, c.requires.numbers.0)) in
    fits_cell g.A.Aggregate.of g.A.Aggregate.fits g.met.A.Aggregate.room c.args.count c.args.numbers.now all c.loop-at.accs.items i (get_or c.args.numbers.now i 0) cell c.index_mut.result.now within below
    c.index_mut.ensures.value (omega (arith, c.requires.rows.few, decoded_length None c.args.codes.now rows)) c.loop-at.invariant

pub loop-at-preserved : goal.loop-at-preserved
loop-at-preserved g c =
    let i = c.loop-at.at in
    let rows : List ℕ = c.args.rows.now in
    let all : List Cell = decoded None (codes_at c.args.codes.now rows) in
    let cell : Cell = c.number_cell-cell.result in
    let within : i < length all = omega (arith, c.loop-at-test.true, decoded_length None c.args.codes.now rows) in
    let below : get_or c.args.numbers.now i 0 < c.args.count =
    all_at (λ n. n < c.args.count) c.args.numbers.now i 0 c.requires.numbers.1 (omega (arith, c.loop-at-test.true, c.requires.numbers.0)) in
    let there : cell ≡ get_or all i cell = cell_there None c.args.codes.now rows i cell c.loop-at-test.true c.number_cell-cell.ensures in
    stepped_next g.A.Aggregate.of g.A.Aggregate.together g.met.A.Aggregate.joins c.args.count c.args.numbers.now all c.loop-at.accs.items i (get_or c.args.numbers.now i 0) cell c.step.new.self c.index_mut.result.now
    (c.requires.numbers.0 ∙ sym (decoded_length None c.args.codes.now rows)) within there refl below c.index_mut.ensures.value c.loop-at.invariant c.in_ok-step.ensures.stepped

pub returns : goal.returns
returns g c =
    stepped_all g.A.Aggregate.of c.args.count c.args.numbers.now (decoded None (codes_at c.args.codes.now c.args.rows.now)) c.loop-at.accs.items c.loop-at.at
    (omega (arith, c.loop-at-test.false, c.loop-at.auto.at-end, c.requires.numbers.0))
    (omega (arith, c.loop-at-test.false, c.loop-at.auto.at-end, decoded_length None c.args.codes.now c.args.rows.now)) c.loop-at.invariant

pub loop-at-init : goal.loop-at-init
loop-at-init g c = stepped_none g.A.Aggregate.of c.args.count c.in_ok-accs.accs.items c.in_ok-accs.ensures

pub bounds-numbers-at : goal.bounds-numbers-at
bounds-numbers-at g c = omega (arith, c.loop-at-test.true, c.requires.numbers.0)

pub bounds-rows-at : goal.bounds-rows-at
bounds-rows-at g c = c.loop-at-test.true

pub bounds-codes-rows : goal.bounds-codes-rows
bounds-codes-rows g c = all_at (λ row. row < length c.args.codes.now) c.args.rows.now c.loop-at.at 0 c.requires.rows.within c.loop-at-test.true

pub index_mut-requires : goal.index_mut-requires
index_mut-requires g c = omega (
  arith,
  all_at (λ n. n < c.args.count) c.args.numbers.now c.loop-at.at 0 c.requires.numbers.1 (omega (arith, c.loop-at-test.true, c.requires.numbers.0)),
  c.loop-at.invariant.counted,
  c.loop-at.accs.ok.0,
)
