use Rattle.std.proofs.Common.{rules}
use Rattle.columns.proofs.HoldLemmas.{named_next}
use Rattle.columns.proofs.columns.Columns.of_named.Goals as goal

pub loop-index-preserved : goal.loop-index-preserved
loop-index-preserved c = record {
  none = (c.in_ok-add.ensures).none c.loop-index.invariant.none;
  named = named_next c.args.named.now c.loop-index.index-index _ c.loop-index.columns c.add.new.self c.loop-index-test.true (search rules) c.in_ok-add.ensures c.loop-index.invariant.named;
}
