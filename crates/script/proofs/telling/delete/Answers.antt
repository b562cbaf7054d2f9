use Rattle.std.proofs.Common.{◌≡◌, rules, true}
use Rattle.loader.specs.Shards.{takes}
use Rattle.script.proofs.TellingLemmas.{deletes_silently}
use Rattle.script.proofs.telling.delete.Goals as goal

pub returns-in-Ok-clause-laid : goal.returns-in-Ok-clause-laid
returns-in-Ok-clause-laid g c =
    let belongs : true ≡ takes g.H.KeyHash.hash_of c.args.sharing.now.shard.now c.args.key = search rules in
    deletes_silently (takes g.H.KeyHash.hash_of c.args.sharing.now.shard.now) c.args.ledger.now c.delete.new.self c.args.key belongs c.in-Ok.ensures.draft
