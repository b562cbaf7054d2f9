use Rattle.script.proofs.OwnLemmas.{none_more, refused_here}
use Rattle.script.proofs.own.first_refused.Goals as goal

pub loop-told-preserved : goal.loop-told-preserved
loop-told-preserved c = none_more c.args.tolds.now c.loop-told.told-index c.loop-told.line c.told-item.result c.loop-told.invariant c.loop-told-test.true c.told-item.is c.in_default.not-Refused

pub returns-in-Refused-clause-some : goal.returns-in-Refused-clause-some
returns-in-Refused-clause-some c =
    refused_here c.args.tolds.now c.loop-told.told-index c.loop-told.line c.told-item.result c.in-Refused.fault c.loop-told.invariant c.loop-told-test.true c.told-item.is c.in-Refused.is
