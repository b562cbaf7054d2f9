use Rattle.read_back.proofs.ValuesLemmas.{delete_says}
use Rattle.read_back.proofs.a_delete_line_deletes_its_key.Goals as goal

pub returns : goal.returns
returns c = delete_says c.tokens_are_those_spelt.ensures
