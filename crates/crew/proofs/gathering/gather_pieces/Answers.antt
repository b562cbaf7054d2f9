use Rattle.crew.specs.Gathering.{rows_in}
use Rattle.crew.proofs.GatheredLemmas.{all_gathered}
use Rattle.crew.proofs.gathering.gather_pieces.Goals as goal

pub all_together-requires : goal.all_together-requires
all_together-requires g c = record {
  rows = rows_in c.args.pieces.now;
  are = all_gathered c.args.plan.now c.args.pieces.now c.in_ok-gathered.gathered.items c.in_ok-gathered.ensures.shared;
  few = c.requires.rows;
}

pub finished-requires-clause-may : goal.finished-requires-clause-may
finished-requires-clause-may g c = λ κs within. record {
  rows = rows_in c.args.pieces.now;
  gathers = c.in_ok-all.ensures (rows_in c.args.pieces.now) (all_gathered c.args.plan.now c.args.pieces.now c.in_ok-gathered.gathered.items c.in_ok-gathered.ensures.shared);
  few = c.requires.rows;
}

pub returns-clause-folds : goal.returns-clause-folds
returns-clause-folds g c =
    c.finished.ensures.folds (rows_in c.args.pieces.now)
    (c.in_ok-all.ensures (rows_in c.args.pieces.now) (all_gathered c.args.plan.now c.args.pieces.now c.in_ok-gathered.gathered.items c.in_ok-gathered.ensures.shared))
