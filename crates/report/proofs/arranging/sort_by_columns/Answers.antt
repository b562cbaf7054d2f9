use Rattle.std.proofs.Common.{rules}
use Rattle.report.specs.Arranging.{rows_cmp}
use Rattle.report.proofs.ArrangingLemmas.{rows_ranks}
use Rattle.report.proofs.SortingLemmas.{compares_as, on_ok_so, one_outcome}
use Rattle.report.proofs.arranging.sort_by_columns.Goals as goal

pub returns : goal.returns
returns c =
    let cmp = rows_cmp c.args.columns.now in
    let ranks = rows_ranks c.args.columns.now in
    let answers = compares_as _ cmp _ (λ a r same called. search rules) in
    on_ok_so c.sort_by.result
    (λ up. one_outcome cmp ranks c.args.rows.now.items c.sort_by.new.self.items (up _ ranks answers) (c.sort_by.ensures.stable _ ranks answers))
    c.sort_by.ensures.sorted
