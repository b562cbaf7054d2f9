use Rattle.crew.proofs.RisingLemmas.{drawn_rises, drawn_is_below}
use Rattle.crew.proofs.deal.draws_rise.Goals as goal

pub returns-clause-rising : goal.returns-clause-rising
returns-clause-rising c = λ seat. drawn_rises seat.pieces seat.number seat.seen

pub returns-clause-below : goal.returns-clause-below
returns-clause-below c = λ seat. drawn_is_below seat.pieces seat.number seat.seen
