use Rattle.std.proofs.Common.{ap₂, ◌∙◌}
use Rattle.std.proofs.lemmas.Result.{IfOk-weaker}
use Rattle.report.specs.Reports.{report_of}
use Rattle.report.proofs.here.answer_here.Goals as goal

pub returns : goal.returns
returns g c =
    IfOk-weaker c.text_in.result _ _ (λ text is. record {
      is = λ rs left same. is ∙ ap₂ (report_of c.args.question.now.form) c.headings.ensures (c.in_ok-rows.ensures.are rs left (c.root-root.ensures.rows ∙ same));
    }) c.text_in.ensures
