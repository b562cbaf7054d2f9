use Rattle.std.proofs.Common.{◌∙◌, ap, map}
use Rattle.std.proofs.lemmas.List.{take_all}
use Rattle.std.specs.List.{flat_map}
use Rattle.query.specs.Marks.{joined}
use Rattle.query.proofs.MarksLemmas.{choices_step}
use Rattle.query.proofs.sets.choices.Goals as goal

pub loop-first-preserved : goal.loop-first-preserved
loop-first-preserved c =
    choices_step c.args.firsts.now c.args.seconds.now c.loop-first.first-index c.first-item.result c.loop-first.sets.items c.in_ok-more.more.items c.append.new.self.items c.loop-first-test.true c.first-item.is
    c.loop-first.invariant c.in_ok-more.ensures c.in_ok-append.ensures.items

pub returns : goal.returns
returns c = c.loop-first.invariant ∙ ap (λ l. flat_map (λ f. map (joined f) c.args.seconds.now) l) (take_all c.loop-first.first-index c.args.firsts.now c.loop-first-test.false)
