use Rattle.std.proofs.Common.{◌≡◌, ◌∙◌, ◌++◌, ap, refl, sym}
use Rattle.board.specs.Editions.{Edition}
use Rattle.report.specs.Reports.{answer_to}
use Rattle.report.specs.declared.question.Question.{Question}
use Rattle.script.specs.Says.{answer_of, spelt}
use Rattle.script.specs.Spelling.{opening}
use Rattle.script.proofs.reporting.ask.Goals as goal

pub returns : goal.returns
returns g c = record {
  is = λ rs left same.
      let begins = rw c.in_ok-question-2.ensures.0 at c.report_opening-opening.ensures in
      let named : c.in_ok-question-2.opening.items ≡ opening c.args.manner.now c.args.number c.args.last.now.number =
      begins ∙ ap (opening c.args.manner.now c.args.number) c.edition.ensures in
      let rows = ap (λ (e : Edition). e.rows) (rw c.in_ok-question-3.ensures.0 at c.share.ensures) in
      record {
        answer = spelt c.args.manner.now (answer_of c.args.plan rs);
        has = λ answer answers.
            let asked = c.in_ok-question-3.ensures.1 ∙ c.in_ok-question-2.ensures.1 ∙ c.in_ok-question.ensures in
            answers.is rs left (rows ∙ same) ∙ ap (λ (q : Question). answer_to q rs) asked;
        joined = ap (λ text. text ++ spelt c.args.manner.now (answer_of c.args.plan rs)) (sym named);
      };
  accepted = refl;
}
