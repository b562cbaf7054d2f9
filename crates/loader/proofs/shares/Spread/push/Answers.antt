use Rattle.std.proofs.Common.{◌∙◌, ap}
use Rattle.loader.specs.Shares.{share_of}
use Rattle.loader.proofs.SharesLemmas.{spread_pushed}
use Rattle.loader.proofs.shares.Spread.push.Goals as goal

pub returns : goal.returns
returns g c = λ pairs spread.
    spread_pushed g.H.KeyHash.hash_of pairs (c.args.key, c.args.row) c.args.self.now.shares.items spread c.share_of-share.result
    (c.share_of-share.ensures.share ∙ ap share_of c.hash.ensures) c.share_of-share.ensures.below
    c.index_mut.result.now c.push.new.self c.index_mut.ensures.value c.in_ok-push.ensures.items
