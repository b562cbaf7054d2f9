use Rattle.std.proofs.Common.{rules, subst, sym, ◌∙◌}
use Rattle.columns.specs.Columns.{HaveAll}
use Rattle.groups.specs.Bags.{Covers}
use Rattle.groups.specs.Numbered.{picked_rows}
use Rattle.groups.proofs.ColumnarLemmas.{pool_next, set_there, sets_next}
use Rattle.groups.proofs.columnar.sources_from.Goals as goal

pub bag_of-requires-clause-set : goal.bag_of-requires-clause-set
bag_of-requires-clause-set g c =
    subst (λ l. HaveAll l c.args.columns.now) (sym (c.as_slice-in-loop-source.ensures.value ∙ c.in_ok-set.ensures.items ∙ c.as_slice.ensures.value))
    (set_there c.args.columns.now c.args.sources.now c.loop-source.source-index c.source-item.result c.loop-source-test.true (search rules) c.requires.sets)

pub loop-source-preserved : goal.loop-source-preserved
loop-source-preserved g c = record {
  sets = sets_next c.args.sources.now c.loop-source.source-index c.source-item.result _ c.loop-source.filled.items c.push.new.self.items c.loop-source-test.true (search rules)
      (c.in_ok-set.ensures.items ∙ c.as_slice.ensures.value) c.loop-source.invariant.sets c.in_ok-push.ensures.items;
  pool = λ all held.
      pool_next c.args.aggregations.now (picked_rows all c.args.rows.now) _ c.loop-source.filled.items c.push.new.self.items (c.loop-source.invariant.pool all held)
      (subst (λ l. Covers c.args.aggregations.now l (picked_rows all c.args.rows.now) c.in_ok-bag.bag) c.as_slice-in-loop-source.ensures.value (c.in_ok-bag.ensures all held))
      c.in_ok-push.ensures.items;
}
