use Rattle.std.proofs.Common.{arith, refl, rules, subst, sym}
use Rattle.std.proofs.lemmas.List.{nil_from_length}
use Rattle.std.proofs.lemmas.Result.{on_ok_weaker}
use Rattle.std.specs.Io.KnownBytes.{Appends}
use Rattle.std.specs.Prelude.{OnErr, OnOk}
use Rattle.report.proofs.WaitingLemmas.{awaits_nothing, front_on, goes_whole, only_text, stops}
use Rattle.report.specs.Laws.{takes_last, takes_start}
use Rattle.report.specs.Taken.{TakesBeginning}
use Rattle.report.proofs.backlog.Backlog.write_ended.Goals as goal

pub loop-self-init : goal.loop-self-init
loop-self-init g c = record {
  written = λ text awaits. record { rest = text; taken = takes_start _ text; awaits = awaits };
  sound = refl;
  fewer = omega arith;
}

pub loop-self-preserved : goal.loop-self-preserved
loop-self-preserved g c = record {
  written = λ text awaits.
      let so_far = c.loop-self.invariant.written text awaits in
      (front_on _ _ _ _ _ _ _ so_far (c.in_ok-write_oldest.ensures.goes_on.written so_far.rest so_far.awaits)).front;
  sound = search rules;
  fewer = omega (arith, c.in_ok-write_oldest.ensures.fewer, c.loop-self.invariant.fewer);
}

pub returns-in_err-write_oldest-clause-goes_on : goal.returns-in_err-write_oldest-clause-goes_on
returns-in_err-write_oldest-clause-goes_on g c = record {
  written = λ text awaits.
      let so_far = c.loop-self.invariant.written text awaits in
      stops _ _ _ _ c.from_residual.result c.from_residual.ensures.0
      (takes_last _ _ _ text so_far.rest so_far.taken (c.in_err-write_oldest.ensures.goes_on.written so_far.rest so_far.awaits).beginning);
  sound = search rules;
  fault = search rules;
}

pub returns-in_err-write_oldest-clause-worker : goal.returns-in_err-write_oldest-clause-worker
returns-in_err-write_oldest-clause-worker g c = λ late. omega (arith, c.in_err-write_oldest.ensures.fewer, c.loop-self.invariant.fewer)

pub returns-clause-goes_on : goal.returns-clause-goes_on
returns-clause-goes_on g c = record {
  written = λ text awaits.
      let so_far = c.loop-self.invariant.written text awaits in
      let none = nil_from_length c.loop-self.self.reports (omega (arith, c.len.ensures.count, c.if-len-gt0.false)) in
      let all = only_text none so_far.awaits in
      front_on _ _ _ _ _ _ _ so_far (goes_whole _ _ c.write_after.new.self _ c.write_after.result
      (subst (λ said. OnOk c.write_after.result (Appends (g.O.Out.taken c.loop-self.out) (g.O.Out.taken c.write_after.new.out) said)) (sym all) c.write_after.ensures.written)
      (subst (λ said. OnErr c.write_after.result (TakesBeginning (g.O.Out.taken c.loop-self.out) (g.O.Out.taken c.write_after.new.out) said)) (sym all) c.write_after.ensures.beginning)
      (on_ok_weaker c.write_after.result (awaits_nothing c.write_after.new.self c.write_after.ensures.idle) c.write_after.ensures.nothing));
  sound = search rules;
  fault = search rules;
}
