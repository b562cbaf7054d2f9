use Rattle.cells.proofs.ReadingLemmas.{spelt_tokens, tokens_spelt}
use Rattle.cells.proofs.reading.tokens_are_those_spelt.Goals as goal

pub returns : goal.returns
returns c text ts = (tokens_spelt text ts, spelt_tokens text ts)
