use Rattle.std.proofs.Common.{arith}
use Rattle.std.proofs.lemmas.List.{length-map}
use Rattle.groups.specs.Groups.{keeps, kept}
use Rattle.groups.specs.Laws.{kept_short}
use Rattle.groups.specs.Partials.{rows_of}
use Rattle.groups.proofs.partial.Partial.of_piece.Goals as goal

pub into_partial-requires : goal.into_partial-requires
into_partial-requires g c = record {
  plan = c.args.plan.now;
  taken = kept c.args.plan.now.condition (rows_of c.args.piece.now);
  folds = c.in_ok-folding.ensures;
  few = omega (arith, c.requires, length-map c.args.piece.now (λ e. e.1), kept_short (keeps c.args.plan.now.condition) (rows_of c.args.piece.now));
}

pub returns : goal.returns
returns g c = c.into_partial.ensures c.args.plan.now (kept c.args.plan.now.condition (rows_of c.args.piece.now)) c.in_ok-folding.ensures
