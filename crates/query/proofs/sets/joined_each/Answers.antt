use Rattle.query.specs.Marks.{joined}
use Rattle.query.proofs.TakenLemmas.{map_all, map_taken}
use Rattle.query.proofs.sets.joined_each.Goals as goal

pub loop-other-preserved : goal.loop-other-preserved
loop-other-preserved c =
    map_taken (joined c.args.first.now) c.args.others.now c.loop-other.other-index c.other-item.result c.loop-other-test.true c.other-item.is
    c.loop-other.sets.items c.push.new.self.items c.in_ok-joined.field-0 c.loop-other.invariant c.in_ok-joined.ensures c.in_ok-push.ensures.items

pub returns : goal.returns
returns c = map_all (joined c.args.first.now) c.args.others.now c.loop-other.other-index c.loop-other.sets.items c.loop-other-test.false c.loop-other.invariant
