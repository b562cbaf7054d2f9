use Rattle.std.proofs.Common.{◌≡◌, ◌++◌, ◌∷◌, [], ◌+◌, ◌≤◌, arith, refl, rules, sym, ap, ◌∙◌}
use Rattle.std.specs.FinMap.{len}
use Rattle.board.specs.Editions.{Edition}
use Rattle.board.specs.Limits.{row_limit}
use Rattle.board.proofs.EditionsLemmas.{same_within, seen_as}
use Rattle.board.proofs.SeatLemmas.{history_goes_on, next_is_last}
use Rattle.cells.specs.RowsFit.{rows_same}
use Rattle.board.proofs.keeper.Keeper.publish.Goals as goal

pub invariant_of-self : goal.invariant_of-self
invariant_of-self g c =
    let kept = c.self.invariant.0 in
    let old = c.self.inside in
    let next = c.in_ok-next.next in
    let now : Edition = c.publish.result in
    let rows : now.rows ≡ old.draft = search rules in
    let table : now.schema ≡ old.last.schema = search rules in
    let short : len old.draft ≤ row_limit = omega (arith, kept.within, kept.most) in
    let number : next.number ≡ old.last.number + 1 = ap (λ (e : Edition). e.number) c.in_ok-next.ensures in (
      record {
        some = kept.some;
        most = kept.most;
        within = kept.within;
        drafted = rows_same old.last.schema now.schema old.draft old.draft table refl kept.drafted;
        begun = history_goes_on old.writer.seat.me.0.seen c.publish.new.self.seat.me.0.seen next.rows kept.begun c.publish.ensures.seen;
        last = next_is_last old.writer.seat.me.0.seen c.publish.new.self.seat.me.0.seen next now c.publish.ensures.result (kept.last.long ∙ sym number) c.publish.ensures.seen;
        published = record { fit = rows_same old.last.schema now.schema old.draft now.rows table rows kept.drafted; few = same_within old.draft now.rows row_limit rows short };
      },
      c.publish.ensures.schema ∙ c.self.invariant.1 ∙ sym table,
    )

pub returns-clause-published : goal.returns-clause-published
returns-clause-published g c =
    let old = c.self.inside in
    let next = c.in_ok-next.next in
    let rows : next.rows ≡ old.draft = ap (λ (e : Edition). e.rows) c.in_ok-next.ensures ∙ c.in_ok-share.ensures in
    seen_as _ _ _ _ c.self.view_is c.tell.ensures.same (record {
      edition = ap (λ (e : Edition). e.number) (c.publish.ensures.result ∙ c.in_ok-next.ensures);
      published = ap (λ (e : Edition). e.rows) c.publish.ensures.result ∙ rows;
      history = c.publish.ensures.seen ∙ ap (λ r. old.writer.seat.me.0.seen ++ r ∷ []) rows;
      draft = refl;
      limit = refl;
      schema = ap (λ (e : Edition). e.schema) (c.publish.ensures.result ∙ c.in_ok-next.ensures);
      board = c.publish.ensures.board;
    })
