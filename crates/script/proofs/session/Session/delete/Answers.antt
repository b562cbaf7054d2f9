use Rattle.std.proofs.Common.{◌≡◌, rules, subst, sym}
use Rattle.script.specs.Changes.{IsChangeLine}
use Rattle.script.specs.ValueLines.{delete_line}
use Rattle.script.proofs.ChangesLemmas.{delete_changes}
use Rattle.script.proofs.session.Session.delete.Goals as goal

pub change-requires-clause-changes : goal.change-requires-clause-changes
change-requires-clause-changes g c = λ κs outlives.
    let is : c.as_slice.result.now ≡ delete_line c.args.key.now = search rules in
    subst IsChangeLine (sym is) (delete_changes c.args.key.now)
