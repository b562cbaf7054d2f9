use Rattle.std.proofs.Common.{◌≡◌, ◌<◌, List, ℕ, ap, arith, length, subst, sym, ◌∙◌}
use Rattle.std.specs.List.{AllByRecursion}
use Rattle.std.proofs.lemmas.List.{length-map}
use Rattle.aggs.specs.declared.acc.Kind.TheVariants.{CountRows}
use Rattle.cells.specs.declared.cell.Cell.{Cell}
use Rattle.columns.specs.Columns.{decoded}
use Rattle.groups.specs.Groups.{cell_at, column_of}
use Rattle.groups.specs.Numbered.{HasRows, picked_rows}
use Rattle.groups.specs.Parting.{codes_at}
use Rattle.groups.specs.Tallying.{AreTallied}
use Rattle.groups.proofs.NumberedLemmas.{cells_picked, has_rows, rows_counted}
use Rattle.groups.proofs.columnar.tally.Goals as goal

pub returns-in-CountRows : goal.returns-in-CountRows
returns-in-CountRows g c = λ all held.
    let cells : List Cell = column_of c.args.aggregation.now.column (picked_rows all c.args.rows.now) in
    let numbers = c.args.groups.now.numbers.items in
    let accs = c.in_ok-counted.field-0.items in
    let same : length cells ≡ length c.as_slice-numbers.result.now =
    length-map (picked_rows all c.args.rows.now) (cell_at c.args.aggregation.now.column) ∙ rows_counted all c.args.rows.now ∙ sym c.requires.all.counted ∙
    ap (λ l. length l) (sym c.as_slice-numbers.ensures.value) in
    subst (λ kind. AreTallied kind (length c.args.groups.now.tuples.items) numbers cells accs) (sym c.in-CountRows.is)
    (subst (λ count. AreTallied CountRows count numbers cells accs) (omega (arith, c.len-count.ensures, c.args.groups.now.tuples.ok.0))
    (subst (λ l. AreTallied CountRows c.len-count.result l cells accs) c.as_slice-numbers.ensures.value (c.in_ok-counted.ensures cells same)))

pub tallied-requires : goal.tallied-requires
tallied-requires g c =
    let may = c.requires.rows in
    let a = c.args.aggregation.now in
    let column = c.column_of-column.result.now in
    let rows : List ℕ = c.args.rows.now in
    let has : HasRows column rows =
    has_rows c.args.columns.now column a.column rows may (c.column_of-column.ensures may.rows may.held) in
    record {
      rows = has;
      numbers = (
        ap (λ l. length l) c.as_slice-numbers.ensures.value ∙ c.requires.all.counted,
        subst (λ l. AllByRecursion (λ n. n < c.len-count.result) l) (sym c.as_slice-numbers.ensures.value)
            (subst (λ count. AllByRecursion (λ n. n < count) c.args.groups.now.numbers.items) (sym (omega (arith, c.len-count.ensures, c.args.groups.now.tuples.ok.0))) c.requires.all.within),
      );
    }

pub returns : goal.returns
returns g c = λ all held.
    let may = c.requires.rows in
    let a = c.args.aggregation.now in
    let column = c.column_of-column.result.now in
    let rows : List ℕ = c.args.rows.now in
    let has : HasRows column rows =
    has_rows c.args.columns.now column a.column rows may (c.column_of-column.ensures may.rows may.held) in
    let read : decoded column.cells (codes_at column.by_row rows) ≡ column_of a.column (picked_rows all rows) =
    cells_picked column a.column all rows (c.column_of-column.ensures all held) has.within in
    subst (λ count. AreTallied a.kind count c.args.groups.now.numbers.items (column_of a.column (picked_rows all rows)) c.in_ok-tallied.field-0.items) (omega (arith, c.len-count.ensures, c.args.groups.now.tuples.ok.0))
    (subst (λ l. AreTallied a.kind c.len-count.result l (column_of a.column (picked_rows all rows)) c.in_ok-tallied.field-0.items) c.as_slice-numbers.ensures.value
    (subst (λ l. AreTallied a.kind c.len-count.result c.as_slice-numbers.result.now l c.in_ok-tallied.field-0.items) read c.in_ok-tallied.ensures))
