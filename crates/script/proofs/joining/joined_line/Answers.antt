use Rattle.script.proofs.JoiningLemmas.{load_joins, put_joins, quiet_joins, refused_joins, report_joins}
use Rattle.script.proofs.joining.joined_line.Goals as goal

pub returns-in-Quiet : goal.returns-in-Quiet
returns-in-Quiet g c = rw c.in-Quiet.is (quiet_joins c.args.walk.now c.args.first c.args.second c.agreed.result c.agreed.ensures)

pub returns-in-Puts : goal.returns-in-Puts
returns-in-Puts g c = rw c.in-Puts.is (put_joins c.args.walk.now c.args.first c.args.second c.agreed-in-Puts.result c.agreed-in-Puts.ensures)

pub returns-in-Loads : goal.returns-in-Loads
returns-in-Loads g c = rw c.in-Loads.is (load_joins c.args.walk.now c.args.first c.args.second c.agreed-in-Loads.result c.agreed-in-Loads.ensures)

pub returns-in-Reports : goal.returns-in-Reports
returns-in-Reports g c = rw c.in-Reports.is (report_joins c.args.walk.now c.in-Reports.query c.args.first c.args.second c.joined_report.result c.joined_report.ensures)

pub returns-in-Refused : goal.returns-in-Refused
returns-in-Refused g c = rw c.in-Refused.is (refused_joins c.args.walk.now c.in-Refused.field-0 c.args.first c.args.second c.agreed-in-Refused.result c.agreed-in-Refused.ensures)
