use Rattle.std.proofs.Common.{◌∙◌, ◌+◌, ap, arith, length, refl, rules, subst, sym}
use Rattle.board.specs.Editions.{IsNewViewer, schema}
use Rattle.report.specs.Onlooking.{onlooking, sent}
use Rattle.script.specs.Viewers.{AreAsked, viewing_of}
use Rattle.script.proofs.ComingLemmas.{new_onlooker, onlooking_more, still_none, turns_more}
use Rattle.script.proofs.coming.send_all.Goals as goal

pub loop-question-init : goal.loop-question-init
loop-question-init g c = record {
  same = refl;
  many = rw c.into_iter-question-iterator.ensures.into_iter_gives.0 (omega arith);
  none = λ some. rw c.requires.nobody refl;
  turns = rw c.requires.nobody refl;
  sent = λ manner asked. (subst (AreAsked manner (schema c.args.keeper.now) c.args.viewing.query.now) (sym c.into_iter-question-iterator.ensures.into_iter_gives.0) asked, rw c.requires.nobody (record { going = tt; waiting = tt }));
}

pub loop-question-preserved : goal.loop-question-preserved
loop-question-preserved g c =
    let inv = c.loop-question.invariant in
    let fewer = ap length c.in-Some.ensures.steps.0 in
    let same = c.in_ok-question.ensures.1 in
    let viewer = rw c.in_ok-question.ensures.0 at c.viewer_of.ensures.viewer in
    let new = onlooking (c.loop-question.number + 1) c.in_ok-question.viewer c.in_ok-question.question c.args.viewing.shots in
    let is = c.in_ok-send.ensures.sent ∙ ap (sent c.loop-question.onlookers) c.new.ensures in
    record {
      same = c.viewer_of.ensures.same ∙ inv.same;
      many = omega (arith, inv.many, fewer);
      none = λ some. rw is (still_none c.loop-question.onlookers new c.args.viewing.shots refl inv.none some);
      turns = rw is (turns_more c.loop-question.onlookers c.in_ok-question.viewer c.in_ok-question.question c.args.viewing.shots c.loop-question.number inv.none inv.turns);
      sent = λ manner asked.
          let so = inv.sent manner asked in
          let left = subst (AreAsked manner (schema c.args.keeper.now) c.args.viewing.query.now) c.in-Some.ensures.steps.0 so.0 in (
            left.1,
            rw is (onlooking_more manner (viewing_of c.args.viewing) c.args.keeper.now c.loop-question.onlookers new (new_onlooker manner (viewing_of c.args.viewing) c.args.keeper.now (c.loop-question.number + 1) c.in_ok-question.viewer c.in_ok-question.question c.args.viewing.shots (subst (λ k. IsNewViewer k c.in_ok-question.viewer) inv.same viewer) (rw (sym same) at left.0)) so.1),
          );
    }

pub returns-clause-turns : goal.returns-clause-turns
returns-clause-turns g c = search rules

pub returns-clause-sent : goal.returns-clause-sent
returns-clause-sent g c = λ manner asked. (c.loop-question.invariant.sent manner asked).1
