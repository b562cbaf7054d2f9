use Rattle.read_back.proofs.FillingLemmas.{query_filled}
use Rattle.read_back.proofs.a_filled_query_has_the_tokens_of_its_values.Goals as goal

pub returns : goal.returns
returns c = λ query values ts has. query_filled has
