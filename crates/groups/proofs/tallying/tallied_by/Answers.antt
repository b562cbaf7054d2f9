use Rattle.std.proofs.lemmas.Result.{IfOk-weaker}
use Rattle.columns.specs.Columns.{decoded}
use Rattle.groups.specs.Parting.{codes_at}
use Rattle.groups.proofs.TallyingLemmas.{tallied_as}
use Rattle.groups.proofs.tallying.tallied_by.Goals as goal

pub returns : goal.returns
returns g c =
    IfOk-weaker c.each_held.result _ _ (λ v made. tallied_as g.A.Aggregate.of g.A.OfKind.acc g.A.OfKind.kind g.met.A.OfKind.is_of c.args.count c.args.numbers.now
    (decoded c.args.column.now.cells (codes_at c.args.column.now.by_row c.args.rows.now)) c.in_ok-accs.accs.items v.items c.in_ok-accs.ensures made)
    c.each_held.ensures
