use Rattle.std.proofs.Common.{◌≡◌, None, Some, rules}
use Rattle.std.proofs.lemmas.Result.{IfOk-weaker}
use Rattle.script.proofs.change.change.Goals as goal

pub returns-in-Some : goal.returns-in-Some
returns-in-Some g c =
    let some : c.args.desk.now ≡ Some c.in-Some.keeper = search rules in
    rw some c.change_kept.ensures

pub returns : goal.returns
returns g c =
    let none : c.args.desk.now ≡ None = search rules in
    rw none (IfOk-weaker c.change_first.result _ _ (λ rule executes number. executes g.H.KeyHash.hash_of number) c.change_first.ensures)
