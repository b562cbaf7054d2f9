use Rattle.std.proofs.Common.{◌≡◌, None, refl, rules}
use Rattle.script.specs.Givens.{givens_of}
use Rattle.script.proofs.StepsLemmas.{steps_first}
use Rattle.script.proofs.here.execute_here.Goals as goal

pub returns : goal.returns
returns g c =
    let none : c.args.desk.now ≡ None = search rules in
    record {
      step = rw (c.quiet.ensures, none)
          (steps_first g.H.KeyHash.hash_of (givens_of c.args.setup.now) c.args.line.bytes.now c.args.line.number None c.in_ok-ledger.ledger c.in_ok-ledger.block refl c.in_ok-ledger.ensures.writes c.in_ok-ledger.ensures.step);
    }
