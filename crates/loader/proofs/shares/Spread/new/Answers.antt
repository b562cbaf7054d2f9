use Rattle.loader.proofs.SharesLemmas.{spread_none}
use Rattle.loader.proofs.shares.Spread.new.Goals as goal

pub returns : goal.returns
returns c = λ hash_of. spread_none _ c.in_ok-empty_lists.ensures hash_of
