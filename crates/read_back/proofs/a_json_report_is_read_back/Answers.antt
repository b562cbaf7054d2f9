use Rattle.read_back.proofs.JsonLemmas.{object_read}
use Rattle.read_back.proofs.a_json_report_is_read_back.Goals as goal

pub returns : goal.returns
returns c = object_read
