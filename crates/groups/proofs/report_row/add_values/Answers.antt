use Rattle.std.proofs.Common.{◌++◌, ap, sym, ◌∙◌}
use Rattle.std.proofs.lemmas.List.{append-nil, drop_all}
use Rattle.groups.specs.Finishing.{row_by}
use Rattle.groups.proofs.FinishLemmas.{value_more}
use Rattle.groups.proofs.GroupingLemmas.{short_at}
use Rattle.groups.proofs.report_row.add_values.Goals as goal

pub value_of-requires : goal.value_of-requires
value_of-requires g c = short_at c.args.items.now c.loop-item.item-index c.item-item.result c.requires c.loop-item-test.true c.item-item.is

pub loop-item-preserved : goal.loop-item-preserved
loop-item-preserved g c =
    value_more c.args.set.now c.args.tuple.now c.args.items.now c.loop-item.item-index c.item-item.result c.loop-item.values.items c.push.new.self.items _ c.in_ok-total.total
    c.loop-item.accs.now c.in_ok-total.left.now c.loop-item-test.true c.item-item.is c.in_ok-total.ensures.value c.in_ok-total.ensures.left c.in_ok-push.ensures.items
    c.loop-item.invariant

pub returns : goal.returns
returns g c =
    let values = c.loop-item.values.items in
    sym (append-nil values)
    ∙ ap (λ l. values ++ row_by c.args.set.now c.args.tuple.now l c.loop-item.accs.now) (sym (drop_all c.loop-item.item-index c.args.items.now c.loop-item-test.false))
    ∙ c.loop-item.invariant
