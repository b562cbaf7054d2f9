use Rattle.std.proofs.Common.{◌≡◌, rules, subst, sym}
use Rattle.script.specs.Changes.{IsChangeLine}
use Rattle.script.specs.ValueLines.{put_line}
use Rattle.script.proofs.ChangesLemmas.{put_changes}
use Rattle.script.proofs.session.Session.put.Goals as goal

pub change-requires-clause-changes : goal.change-requires-clause-changes
change-requires-clause-changes g c = λ κs outlives.
    let is : c.as_slice.result.now ≡ put_line c.args.cells.now = search rules in
    subst IsChangeLine (sym is) (put_changes c.args.cells.now)
