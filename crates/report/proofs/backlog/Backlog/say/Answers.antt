use Rattle.std.proofs.Common.{◌≡◌, ◌++◌, [], subst, sym, rules}
use Rattle.std.proofs.lemmas.Result.{on_ok_weaker}
use Rattle.std.specs.Io.KnownBytes.{Appends}
use Rattle.std.specs.Prelude.{OnErr, OnOk}
use Rattle.report.proofs.WaitingLemmas.{awaits_nothing, comes_text, goes_whole, only_text, stops, waits_text}
use Rattle.report.specs.Laws.{takes_nothing}
use Rattle.report.specs.Taken.{TakesBeginning}
use Rattle.report.specs.Waiting.{Awaits}
use Rattle.report.proofs.backlog.Backlog.say.Goals as goal

pub returns-in_err-push_text-clause-goes_on : goal.returns-in_err-push_text-clause-goes_on
returns-in_err-push_text-clause-goes_on g c = record {
  written = λ text p. stops _ _ _ _ c.from_residual.result c.from_residual.ensures.0 (takes_nothing _ _);
  sound = search rules;
  fault = search rules;
}

pub returns-then-len-gt0-clause-goes_on : goal.returns-then-len-gt0-clause-goes_on
returns-then-len-gt0-clause-goes_on g c = record {
  written = λ text p. rw (p.joined, ← p.is_more, c.in_ok-push_text.ensures.text) (waits_text _ _ p.waiting c.args.text.now _ p.awaits);
  sound = search rules;
  fault = search rules;
}

pub returns-clause-goes_on : goal.returns-clause-goes_on
returns-clause-goes_on g c = record {
  written = λ text p.
      let longer : Awaits c.push_text.new.self (p.waiting ++ c.args.text.now) =
      rw c.in_ok-push_text.ensures.text (comes_text _ c.args.text.now _ p.waiting p.awaits) in
      let none : c.push_text.new.self.reports ≡ [] = search rules in
      let all = only_text none longer in
      rw (p.joined, ← p.is_more) (goes_whole _ _ c.write_after.new.self _ c.write_after.result
      (subst (λ said. OnOk c.write_after.result (Appends (g.O.Out.taken c.args.out.now) (g.O.Out.taken c.write_after.new.out) said)) (sym all) c.write_after.ensures.written)
      (subst (λ said. OnErr c.write_after.result (TakesBeginning (g.O.Out.taken c.args.out.now) (g.O.Out.taken c.write_after.new.out) said)) (sym all) c.write_after.ensures.beginning)
      (on_ok_weaker c.write_after.result (awaits_nothing c.write_after.new.self c.write_after.ensures.idle) c.write_after.ensures.nothing));
  sound = search rules;
  fault = search rules;
}
