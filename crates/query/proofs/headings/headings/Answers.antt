use Rattle.query.specs.Headings.{heading}
use Rattle.query.proofs.TakenLemmas.{map_all, map_taken}
use Rattle.query.proofs.headings.headings.Goals as goal

pub loop-item-preserved : goal.loop-item-preserved
loop-item-preserved c =
    map_taken heading c.args.items.now c.loop-item.item-index c.item-item.result c.loop-item-test.true c.item-item.is
    c.loop-item.texts.items c.push.new.self.items c.in_ok-heading.field-0 c.loop-item.invariant c.in_ok-heading.ensures c.in_ok-push.ensures.items

pub returns : goal.returns
returns c = map_all heading c.args.items.now c.loop-item.item-index c.loop-item.texts.items c.loop-item-test.false c.loop-item.invariant
