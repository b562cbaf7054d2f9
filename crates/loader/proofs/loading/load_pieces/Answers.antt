use Rattle.std.proofs.lemmas.Result.{IfOk-weaker}
use Rattle.loader.specs.Pieces.{rows_of_pieces}
use Rattle.loader.specs.Shards.{takes}
use Rattle.loader.specs.Shares.{in_shares}
use Rattle.loader.proofs.ListedLemmas.{all_fit, all_loaded}
use Rattle.loader.proofs.loading.load_pieces.Goals as goal

pub returns-clause-loaded : goal.returns-clause-loaded
returns-clause-loaded g c =
    let h = g.H.KeyHash.hash_of in
    let t = c.args.schema.now in
    all_loaded h (takes h c.args.shard.now) t (rows_of_pieces t 0 c.args.pieces.now) (in_shares c.in_ok-shares.shares.shares.items) c.in_ok-shares.ensures c.trie_of_shares.result
    c.trie_of_shares.ensures.held c.trie_of_shares.ensures.refused

pub returns-clause-fits : goal.returns-clause-fits
returns-clause-fits g c =
    let h = g.H.KeyHash.hash_of in
    let t = c.args.schema.now in
    IfOk-weaker c.trie_of_shares.result _ _ (all_fit h (takes h c.args.shard.now) t (rows_of_pieces t 0 c.args.pieces.now) (in_shares c.in_ok-shares.shares.shares.items) c.in_ok-shares.ensures)
    c.trie_of_shares.ensures.held
