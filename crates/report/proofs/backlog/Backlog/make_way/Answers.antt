use Rattle.std.proofs.Common.{ap, rules, ◌∙◌}
use Rattle.report.proofs.WaitingLemmas.{begins_first, front_text, stops}
use Rattle.report.specs.Laws.{takes_so_far}
use Rattle.report.specs.Waiting.{with_text}
use Rattle.report.proofs.backlog.Backlog.make_way.Goals as goal

pub returns-in_err-make_room-clause-goes_on : goal.returns-in_err-make_room-clause-goes_on
returns-in_err-make_room-clause-goes_on g c = record {
  written = λ text p. rw p.joined (stops _ _ _ _ c.from_residual.result c.from_residual.ensures.0 (begins_first _ _ _ _ (c.in_err-make_room.ensures.goes_on.written p.waiting p.awaits).beginning));
  sound = search rules;
  fault = search rules;
}

pub returns-in_err-push_text-clause-goes_on : goal.returns-in_err-push_text-clause-goes_on
returns-in_err-push_text-clause-goes_on g c = record {
  written = λ text p. rw p.joined (stops _ _ _ _ c.from_residual-in_err-push_text.result c.from_residual-in_err-push_text.ensures.0
      (begins_first _ _ _ _ (takes_so_far _ _ _ _ (c.in_ok-make_room.ensures.goes_on.written p.waiting p.awaits).front.taken)));
  sound = search rules;
  fault = search rules;
}

pub returns-clause-goes_on : goal.returns-clause-goes_on
returns-clause-goes_on g c = record {
  written = λ text p. rw (p.joined, ← p.is_more, c.in_ok-push_text.ensures.text)
      (front_text _ _ _ p.waiting c.args.heading.now _ (c.in_ok-make_room.ensures.goes_on.written p.waiting p.awaits).front);
  sound = search rules;
  fault = search rules;
}

pub returns-clause-early : goal.returns-clause-early
returns-clause-early g c = λ few.
    let same = c.in_ok-make_room.ensures.early few in
    (same.1, c.in_ok-push_text.ensures.text ∙ ap (λ w. with_text w c.args.heading.now) same.0)
