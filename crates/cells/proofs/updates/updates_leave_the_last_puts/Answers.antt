use Rattle.cells.proofs.UpdatesLemmas.{rows_are_last_puts}
use Rattle.cells.proofs.updates.updates_leave_the_last_puts.Goals as goal

pub returns : goal.returns
returns c = rows_are_last_puts
