use Rattle.std.proofs.Common.{ap₂, ◌∙◌}
use Rattle.report.specs.Reports.{report_of}
use Rattle.report.proofs.answering.Answering.text_in.Goals as goal

pub returns : goal.returns
returns g c = record {
  is = λ rs left same.
      c.in_ok-text.ensures
      ∙ ap₂ (report_of c.args.form) c.headings.ensures (c.in_ok-rows.ensures.are rs left same);
}
