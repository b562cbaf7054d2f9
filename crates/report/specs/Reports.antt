-- The text of a report: the headings of its plan and its rows, arranged and spelt in a form.
use Rattle.std.specs.Prelude.{ℕ, List, ◌++◌, codes, map}
use Rattle.cells.specs.Values.{RowValue}
use Rattle.cells.specs.declared.total.Total.{Total}
use Rattle.forms.specs.Forms.{report_in}
use Rattle.forms.specs.declared.form.Form.{Form}
use Rattle.forms.specs.declared.form.Form.TheVariants.{Classic, Csv, Json, Table}
use Rattle.groups.specs.Groups.{report_rows}
use Rattle.query.specs.Marking.{marked}
use Rattle.query.specs.Plans.{PlanTree}
use Rattle.report.specs.Arranging.{ArrangementValue, arranged, unarranged}
use Rattle.report.specs.Subtotals.{told_row, unmarked}
use Rattle.report.specs.declared.question.Question.{Question}

-- these headings and rows as a report in a form; in JSON it closes the object that the report's heading has begun, and in a table marks
-- stand behind headings and values
abbrev pub report_of : Form → List (List ℕ) → List (List Total) → List ℕ
report_of Classic headings rows = report_in Classic headings rows
report_of Csv headings rows = report_in Csv headings rows
report_of Json headings rows = report_in Json headings rows ++ codes "}\n"
report_of Table headings rows = report_in Table (unmarked headings) (map told_row rows)

-- the plan whose rows a form spells: that of a table has marks
abbrev pub plan_in : Form → PlanTree → PlanTree
plan_in Classic plan = plan
plan_in Csv plan = plan
plan_in Json plan = plan
plan_in Table plan = marked plan

-- a report in a form by the plan whose rows it spells, and so arranged
abbrev pub question_of : Form → PlanTree → ArrangementValue → Question
question_of form plan arrangement = record { form = form; plan = plan; arrangement = arrangement }

-- a plan's report that is asked for in a form, and so arranged
abbrev pub asked_in : Form → PlanTree → ArrangementValue → Question
asked_in form plan arrangement = question_of form (plan_in form plan) arrangement

abbrev pub classic : PlanTree → Question
classic plan = asked_in Classic plan unarranged

-- the text of what is asked, of which these are the rows
abbrev pub text_of : Question → List (List Total) → List ℕ
text_of question rows = report_of question.form question.plan.headings (arranged question.arrangement question.plan.headings rows)

-- what is asked of a table's rows
abbrev pub answer_to : Question → List RowValue → List ℕ
answer_to question rows = text_of question (report_rows question.plan rows)

-- the same of a plan's report in the classic form
abbrev pub report_text : PlanTree → List (List Total) → List ℕ
report_text plan rows = text_of (classic plan) rows
