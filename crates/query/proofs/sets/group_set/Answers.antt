use Rattle.query.proofs.MarksLemmas.{index_marked, index_passed}
use Rattle.query.proofs.sets.group_set.Goals.{then-marked+in_ok-push, else-marked}
use Rattle.query.proofs.sets.group_set.Goals as goal

pub loop-index-preserved : goal.loop-index-preserved
loop-index-preserved c = elim c.if-marked.branch [
  | then-marked+in_ok-push w ↦
      rw w.columns-is (index_marked c.deref-marked-items.result.now c.loop-index.index c.loop-index.columns.items c.loop-index.invariant c.loop-index-test.true
      w.if-marked.true w.push.new.self.items w.in_ok-push.ensures.items)
  | else-marked w ↦
      rw w.columns-is (index_passed c.deref-marked-items.result.now c.loop-index.index c.loop-index.columns.items c.loop-index.invariant c.loop-index-test.true w.if-marked.false)
]
