use Rattle.std.proofs.Common.{◌≡◌, ◌++◌, ◌∷◌, [], ◌+◌, ◌≤◌, arith, refl, sym, ap, ◌∙◌}
use Rattle.std.specs.FinMap.{len}
use Rattle.board.specs.Editions.{Edition}
use Rattle.board.specs.Limits.{row_limit}
use Rattle.board.proofs.EditionsLemmas.{same_within}
use Rattle.board.proofs.SeatLemmas.{history_goes_on, next_is_last}
use Rattle.cells.specs.RowsFit.{rows_same}
use Rattle.board.proofs.ledger.Ledger.publish.Goals as goal

pub invariant_of-self : goal.invariant_of-self
invariant_of-self g c =
    let kept = c.self.invariant in
    let old = c.self.inside in
    let next = c.in_ok-next.next in
    let number : next.number ≡ old.last.number + 1 = ap (λ (e : Edition). e.number) c.in_ok-next.ensures in
    let rows : next.rows ≡ old.draft = ap (λ (e : Edition). e.rows) c.in_ok-next.ensures ∙ c.in_ok-share.ensures in
    let table : next.schema ≡ old.last.schema = ap (λ (e : Edition). e.schema) c.in_ok-next.ensures in
    let short : len old.draft ≤ row_limit = omega (arith, kept.within, kept.most) in
    let seen : c.and_next-self-inside.result.items ≡ old.editions.items ++ next.rows ∷ [] =
    c.and_next-self-inside.ensures ∙ ap (λ r. old.editions.items ++ r ∷ []) c.root.ensures.rows in
    record {
      some = kept.some;
      most = kept.most;
      within = kept.within;
      drafted = rows_same old.last.schema next.schema old.draft old.draft table refl kept.drafted;
      begun = history_goes_on old.editions.items c.and_next-self-inside.result.items next.rows kept.begun seen;
      last = next_is_last old.editions.items c.and_next-self-inside.result.items next next refl (kept.last.long ∙ sym number) seen;
      published = record { fit = rows_same old.last.schema next.schema old.draft next.rows table rows kept.drafted; few = same_within old.draft next.rows row_limit rows short };
    }
