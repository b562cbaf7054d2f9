use Rattle.std.proofs.Common.{ℕ, ap, ◌∙◌}
use Rattle.std.specs.Prelude.{Vec}
use Rattle.std.specs.declared.alloc.Global.{Global}
use Rattle.report.proofs.StartedLemmas.{report_behind}
use Rattle.report.proofs.backlog.Backlog.push_started.Goals as goal

pub returns : goal.returns
returns g c =
    report_behind _ c.self.inside.reports.items _ c.self.inside.after.items _ _ c.self.view_is c.in_ok-push_back.ensures.items
    (ap (λ (v : Vec ℕ Global). v.items) c.replace-before.ensures.after ∙ c.new.ensures.items)
    (ap (λ (v : Vec ℕ Global). v.items) c.replace-before.ensures.value)
