use Rattle.std.proofs.Common.{◌∙◌, ◌+◌, ◌∷◌, [], ap, arith, length, length-append, refl, subst, sym}
use Rattle.board.specs.Editions.{board, schema}
use Rattle.report.specs.Watching.{watch_from}
use Rattle.script.specs.Viewers.{AreAsked, viewing_of}
use Rattle.script.proofs.TailsLemmas.{started_more}
use Rattle.script.proofs.gallery.Gallery.start_all.Goals as goal

pub loop-question-init : goal.loop-question-init
loop-question-init g c = record {
  same = refl;
  others = refl;
  many = rw (c.requires.nobody, c.into_iter-question-iterator.ensures.into_iter_gives.0) (omega arith);
  started = λ manner asked. (subst (AreAsked manner (schema c.args.keeper.now) c.args.viewing.query.now) (sym c.into_iter-question-iterator.ensures.into_iter_gives.0) asked, rw c.requires.nobody tt);
}

pub loop-question-preserved : goal.loop-question-preserved
loop-question-preserved g c =
    let inv = c.loop-question.invariant in
    let fewer = ap length c.in-Some.ensures.steps.0 in
    let more = ap (λ a. length a.watches) c.in_ok-begin.ensures.watching in
    let same = c.in_ok-question.ensures.1 in
    let viewer = rw c.in_ok-question.ensures.0 at c.viewer_of.ensures.viewer in
    record {
      same = c.viewer_of.ensures.same ∙ inv.same;
      others = inv.others;
      many = omega (arith, inv.many, fewer, more, length-append c.loop-question.self.audience.watches (watch_from (c.loop-question.self.audience.begun + 1) c.in_ok-question.viewer c.in_ok-question.question c.args.viewing.shots ∷ []));
      started = λ manner asked.
          let so = inv.started manner asked in
          let left = subst (AreAsked manner (schema c.args.keeper.now) c.args.viewing.query.now) c.in-Some.ensures.steps.0 so.0 in (
            left.1,
            rw c.in_ok-begin.ensures.watching (started_more manner (viewing_of c.args.viewing) c.args.keeper.now c.loop-question.self.audience.watches (c.loop-question.self.audience.begun + 1) c.in_ok-question.viewer c.in_ok-question.question so.1
                (viewer.board ∙ ap board inv.same) (viewer.schema ∙ ap schema inv.same) (rw (sym same) at left.0)),
          );
    }

pub returns-clause-started : goal.returns-clause-started
returns-clause-started g c = λ manner asked. (c.loop-question.invariant.started manner asked).1
