use Rattle.std.proofs.Common.{ap, map, refl, sym, ◌∙◌}
use Rattle.report.proofs.WaitingLemmas.{goes_oldest}
use Rattle.report.specs.Waiting.{under_way}
use Rattle.report.proofs.backlog.Backlog.write_oldest.Goals as goal

pub returns-clause-goes_on : goal.returns-clause-goes_on
returns-clause-goes_on g c = record {
  written = λ text awaits.
      goes_oldest _ _ (under_way c.in-Some.oldest) c.args.self.now (record { reports = map under_way c.pop_front.new.self.items; after = c.self.inside.after.items }) text c.write.result
      (ap (λ w. w.reports) (sym c.self.view_is) ∙ ap (map under_way) c.in-Some.ensures.items) (ap (λ w. w.after) (sym c.self.view_is)) awaits
      (λ answer has. c.write.ensures.whole.written _ (record { answer = answer; has = has; joined = refl }))
      (λ answer has. c.write.ensures.whole.beginning _ (record { answer = answer; has = has; joined = refl }));
  sound = c.write.ensures.whole.sound;
  fault = c.write.ensures.whole.fault;
}
