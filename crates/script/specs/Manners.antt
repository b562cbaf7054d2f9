-- The way in which a run tells its answers.
use Rattle.std.specs.Prelude.{true}
use Rattle.forms.specs.declared.form.Form.{Form}
use Rattle.query.specs.Plans.{PlanTree}
use Rattle.report.specs.Arranging.{unarranged}
use Rattle.report.specs.Reports.{asked_in}
use Rattle.report.specs.declared.question.Question.{Question}
use Rattle.script.specs.declared.manner.Manner.{Manner}

-- that of a run in a form, with headings; rows stand as they come
abbrev pub in_form : Form → Manner
in_form form = record { form = form; heads = true; arrangement = unarranged }

-- what is asked of a plan, so that its answer is told in this way
abbrev pub question_in : Manner → PlanTree → Question
question_in manner plan = asked_in manner.form plan manner.arrangement
