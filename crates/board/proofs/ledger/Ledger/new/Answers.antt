use Rattle.std.proofs.Common.{[], ◌∷◌, ◌∙◌, ap, arith, rules}
use Rattle.board.proofs.EditionsLemmas.{limit_stays}
use Rattle.board.proofs.SeatLemmas.{first_is_last}
use Rattle.cells.specs.RowsFit.{rows_stay}
use Rattle.cells.specs.Tables.{Rows}
use Rattle.board.proofs.ledger.Ledger.new.Goals as goal

pub invariant_of-result : goal.invariant_of-result
invariant_of-result g c = record {
  some = omega (arith, c.requires.limit.0);
  most = omega (arith, c.requires.limit.1);
  within = search (rules, limit_stays);
  drafted = search (rules, rows_stay);
  begun = record { later = []; is = c.first_of-editions.ensures ∙ ap (λ (r : Rows). r ∷ []) c.empty-draft.ensures };
  last = first_is_last _ _ _ (c.first_of-editions.ensures ∙ ap (λ (r : Rows). r ∷ []) c.empty-draft.ensures) c.first-last.ensures;
  published = record { fit = search (rules, rows_stay); few = search (rules, limit_stays) };
}
