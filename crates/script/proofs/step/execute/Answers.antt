use Rattle.std.proofs.Common.{◌≡◌, None, refl, rules}
use Rattle.script.specs.Givens.{givens_of}
use Rattle.script.proofs.StepsLemmas.{steps_first}
use Rattle.script.proofs.step.execute.Goals as goal

pub returns-clause-step : goal.returns-clause-step
returns-clause-step g c =
    let none : c.args.desk.now ≡ None = search rules in
    rw (c.quiet.ensures, none)
    (steps_first g.H.KeyHash.hash_of (givens_of c.args.setup.now) c.args.line.bytes.now c.args.line.number None c.in_ok-keeper.keeper c.in_ok-keeper.block refl c.in_ok-keeper.ensures.writes c.in_ok-keeper.ensures.step)
