use Rattle.std.proofs.Common.{sym, ◌∙◌}
use Rattle.groups.proofs.PoolLemmas.{indexes_more}
use Rattle.groups.proofs.SourcesLemmas.{column_is_there}
use Rattle.groups.proofs.set_columns.indexes_in.Goals as goal

pub unreachable-requires : goal.unreachable-requires
unreachable-requires c = column_is_there c.args.finer.now c.args.set.now c.loop-column.column-index c.index_in.result c.requires c.loop-column-test.true c.index_in.ensures c.in_default.is

pub loop-column-preserved : goal.loop-column-preserved
loop-column-preserved c =
    indexes_more c.args.finer.now c.args.set.now c.loop-column.indexes.items c.push.new.self.items c.loop-column.column-index c.in-Some.index
    c.loop-column-test.true c.loop-column.invariant (sym c.index_in.ensures ∙ c.in-Some.is) c.in_ok-push.ensures.items
