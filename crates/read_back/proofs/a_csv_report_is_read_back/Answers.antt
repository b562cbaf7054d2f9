use Rattle.read_back.proofs.CsvLemmas.{report_read}
use Rattle.read_back.proofs.a_csv_report_is_read_back.Goals as goal

pub returns : goal.returns
returns c = report_read
