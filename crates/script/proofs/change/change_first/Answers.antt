use Rattle.std.proofs.Common.{None}
use Rattle.std.proofs.lemmas.Result.{IfOk-weaker}
use Rattle.script.specs.Deeds.{deed}
use Rattle.script.specs.Givens.{givens_of}
use Rattle.script.proofs.ChangesLemmas.{change_refused, does_change, no_first}
use Rattle.script.proofs.change.change_first.Goals as goal

pub returns-in-Ok : goal.returns-in-Ok
returns-in-Ok g c = absurd (no_first _ (does_change c.args.line.now None _ c.requires.changes c.in-Ok.ensures))

pub returns-in-Err : goal.returns-in-Err
returns-in-Err g c =
    IfOk-weaker c.rule_of.result _ _
    (λ rule ruled hash number. change_refused hash (givens_of c.args.setup.now) c.args.line.now None rule (ruled (deed None c.args.line.now) (c.requires.changes None) c.in-Err.ensures) number)
    c.rule_of.ensures
