use Rattle.read_back.proofs.ValuesLemmas.{put_says}
use Rattle.read_back.proofs.a_put_line_puts_its_row.Goals as goal

pub returns : goal.returns
returns c = put_says
