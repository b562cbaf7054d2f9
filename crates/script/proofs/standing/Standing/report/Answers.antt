use Rattle.script.specs.Givens.{givens_of}
use Rattle.script.proofs.SessionsLemmas.{answers_table, answers_untabled}
use Rattle.script.proofs.standing.Standing.report.Goals as goal

pub returns-in_default : goal.returns-in_default
returns-in_default g c =
    answers_untabled (givens_of c.args.setup.now) c.args.self.now.lines.items c.args.query.now c.args.self.now.number (rw c.in_default.is at c.requires)

pub returns : goal.returns
returns g c =
    answers_table (givens_of c.args.setup.now) c.args.self.now.lines.items c.args.query.now c.args.self.now.number c.in-Some.keeper (rw c.in-Some.is at c.requires)
    c.report_values.result c.report_values.ensures
