use Rattle.std.proofs.Common.{ap, rules, ◌∙◌}
use Rattle.report.proofs.WaitingLemmas.{before_answer, begins_answer, front_answer, stops}
use Rattle.report.specs.Laws.{takes_so_far}
use Rattle.report.specs.Waiting.{with_report}
use Rattle.report.proofs.backlog.Backlog.begin.Goals as goal

pub returns-in_err-snapshot-clause-goes_on : goal.returns-in_err-snapshot-clause-goes_on
returns-in_err-snapshot-clause-goes_on g c = record {
  written = λ text p. stops _ _ _ _ c.from_residual.result c.from_residual.ensures.0
      (begins_answer _ _ _ _ text p _ _ (c.in_err-snapshot.ensures.goes_on.written _ (before_answer _ _ _ _ text p)).beginning);
  sound = search rules;
  fault = search rules;
}

pub returns-in_err-push_report-clause-goes_on : goal.returns-in_err-push_report-clause-goes_on
returns-in_err-push_report-clause-goes_on g c = record {
  written = λ text p. stops _ _ _ _ c.from_residual-in_err-push_report.result c.from_residual-in_err-push_report.ensures.0
      (begins_answer _ _ _ _ text p _ _ (takes_so_far _ _ _ _ (c.in_ok-snapshot.ensures.goes_on.written _ (before_answer _ _ _ _ text p)).front.taken));
  sound = search rules;
  fault = search rules;
}

pub returns-clause-goes_on : goal.returns-clause-goes_on
returns-clause-goes_on g c =
    let same = c.in_ok-snapshot.ensures.same in
    let new = c.in_ok-push_report.ensures ∙ ap (λ a. with_report c.make_way.new.self a.0 a.1) same in
    record {
      written = λ text p. rw new
          (front_answer _ _ _ _ text p _ _ c.make_way.new.self _ (c.in_ok-snapshot.ensures.goes_on.written _ (before_answer _ _ _ _ text p)).front);
      sound = search rules;
      fault = search rules;
    }

pub returns-clause-early : goal.returns-clause-early
returns-clause-early g c = λ few.
    let ready = c.in_ok-snapshot.ensures.early few in
    let same = c.in_ok-snapshot.ensures.same in
    (ready.0, c.in_ok-push_report.ensures ∙ ap (λ a. with_report c.make_way.new.self a.0 a.1) same ∙ ap (λ w. with_report w c.args.snapshot c.args.question) ready.1)
