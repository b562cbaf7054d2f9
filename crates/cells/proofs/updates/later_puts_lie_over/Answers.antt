use Rattle.cells.proofs.OverLemmas.{no_fewer, over, stands}
use Rattle.cells.proofs.updates.later_puts_lie_over.Goals as goal

pub returns-clause-over : goal.returns-clause-over
returns-clause-over c = over

pub returns-clause-stands : goal.returns-clause-stands
returns-clause-stands c = stands

pub returns-clause-more : goal.returns-clause-more
returns-clause-more c = no_fewer
