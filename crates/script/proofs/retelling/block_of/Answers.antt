use Rattle.script.proofs.RetellingLemmas.{load_gives, put_gives, quiet_gives, refused_gives, report_gives}
use Rattle.script.proofs.retelling.block_of.Goals as goal

pub returns-in-Quiet : goal.returns-in-Quiet
returns-in-Quiet g c = rw c.in-Quiet.is (quiet_gives c.args.manner.now c.args.walk.now c.args.told _ c.new.ensures.items)

pub returns-in-Puts : goal.returns-in-Puts
returns-in-Puts g c = rw c.in-Puts.is (put_gives c.args.manner.now c.args.walk.now c.args.told _ c.new-in-Puts.ensures.items)

pub returns-in-Loads : goal.returns-in-Loads
returns-in-Loads g c = rw c.in-Loads.is (load_gives c.args.manner.now c.args.walk.now c.args.told c.block_of_load.result c.block_of_load.ensures)

pub returns-in-Reports : goal.returns-in-Reports
returns-in-Reports g c = rw c.in-Reports.is (report_gives c.args.manner.now c.args.walk.now c.in-Reports.query c.args.told c.block_of_report.result c.block_of_report.ensures)

pub returns-in-Refused : goal.returns-in-Refused
returns-in-Refused g c = rw c.in-Refused.is (refused_gives c.args.manner.now c.args.walk.now c.in-Refused.fault c.args.told c.refusal_so.result c.refusal_so.ensures)
