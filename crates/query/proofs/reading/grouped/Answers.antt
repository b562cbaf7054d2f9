use Rattle.std.proofs.Common.{◌≡◌}
use Rattle.query.specs.Values.{all_rows}
use Rattle.query.proofs.Lists.{turn_found}
use Rattle.query.proofs.Ends.{grouped_none}
use Rattle.query.proofs.reading.grouped.Goals as goal

pub returns-in-Some : goal.returns-in-Some
returns-in-Some c = rw c.in-Some.ensures c.grouped_by.ensures

pub returns : goal.returns
returns c =
    let whole : c.in_ok-having-2.groups ≡ all_rows = rw c.in_ok-having-2.ensures.0 at c.all_rows.ensures in
    rw (whole, c.in_ok-having-2.ensures.1) (turn_found (grouped_none c.args.tokens.now c.in_default.ensures) c.in_ok-having.ensures)
