use Rattle.std.proofs.Common.{ap, sym, ◌∙◌}
use Rattle.std.proofs.lemmas.List.{drop_all}
use Rattle.groups.specs.Finishing.{left_by_all}
use Rattle.groups.proofs.FinishLemmas.{left_more}
use Rattle.groups.proofs.report_row.behind.Goals as goal

pub loop-item-preserved : goal.loop-item-preserved
loop-item-preserved g c =
    left_more c.args.items.now c.loop-item.item-index c.item-item.result c.loop-item.accs.now c.behind_one-accs.result.now _ c.loop-item-test.true c.item-item.is c.behind_one-accs.ensures
    c.loop-item.invariant

pub returns : goal.returns
returns g c =
    ap (λ l. left_by_all l c.loop-item.accs.now) (sym (drop_all c.loop-item.item-index c.args.items.now c.loop-item-test.false)) ∙ c.loop-item.invariant
