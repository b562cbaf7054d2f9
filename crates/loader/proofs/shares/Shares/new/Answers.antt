use Rattle.loader.specs.Shares.{share_count}
use Rattle.loader.proofs.SharesLemmas.{none_in_shares, spread_none}
use Rattle.loader.proofs.shares.Shares.new.Goals as goal

pub returns : goal.returns
returns c = λ hash_of. spread_none _ (none_in_shares share_count _ c.in_ok-empty_lists.ensures) hash_of
