use Rattle.std.proofs.Common.{List, length, subst, sym, ◌≡◌, true}
use Rattle.aggs.specs.declared.acc.Kind.TheVariants.{CountRows}
use Rattle.columns.specs.Columns.{has}
use Rattle.groups.specs.declared.aggregation.Aggregation.{Aggregation}
use Rattle.groups.specs.Columnar.{TalliesRows, aggregation_at}
use Rattle.groups.specs.Numbered.{picked_rows}
use Rattle.groups.proofs.ColumnarLemmas.{zip_at}
use Rattle.groups.proofs.NeededLemmas.{read_at}
use Rattle.groups.proofs.columnar.tally_next.Goals as goal

pub returns-in-Some : goal.returns-in-Some
returns-in-Some g c = λ all held before.
    let aggregations : List Aggregation = c.args.aggregations.now in
    let wanted : Aggregation = aggregation_at aggregations (length c.args.before.now) in
    let R = TalliesRows (picked_rows all c.args.rows.now) c.args.groups.now.numbers.items (length c.args.groups.now.tuples.items) in
    subst (R wanted) (sym c.in_ok-copies.ensures)
    (zip_at R (λ accs. accs.items) aggregations c.args.before.now c.in-Some.same (record { kind = CountRows; column = 0 }) wanted c.index-before-same.result c.in-Some.ensures.0 c.in-Some.ensures.1
    c.index-before-same.is before)

pub tally-requires-clause-read : goal.tally-requires-clause-read
tally-requires-clause-read g c =
    read_at (λ index. has c.args.columns.now index ≡ true) c.args.aggregations.now (length c.args.before.now) (record { kind = CountRows; column = 0 }) c.requires.left c.requires.read

pub returns : goal.returns
returns g c = λ all held before. c.in_ok-accs.ensures all held
