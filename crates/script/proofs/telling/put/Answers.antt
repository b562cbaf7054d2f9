use Rattle.std.proofs.Common.{◌≡◌, Err, ap, refl, rules, true}
use Rattle.loader.specs.Shards.{takes}
use Rattle.script.proofs.TellingLemmas.{full_put, puts_silently}
use Rattle.script.proofs.telling.put.Goals as goal

pub returns-in-Ok-put-clause-laid : goal.returns-in-Ok-put-clause-laid
returns-in-Ok-put-clause-laid g c =
    let belongs : true ≡ takes g.H.KeyHash.hash_of c.args.sharing.now.shard.now c.args.row.key = search rules in
    puts_silently (takes g.H.KeyHash.hash_of c.args.sharing.now.shard.now) c.args.ledger.now c.put.new.self c.args.row belongs c.in-Ok-put.ensures.draft

pub returns-in-Err-TooManyRows-clause-ends : goal.returns-in-Err-TooManyRows-clause-ends
returns-in-Err-TooManyRows-clause-ends g c =
    let belongs : true ≡ takes g.H.KeyHash.hash_of c.args.sharing.now.shard.now c.args.row.key = search rules in
    (refl, full_put (takes g.H.KeyHash.hash_of c.args.sharing.now.shard.now) c.args.ledger.now c.args.row belongs (c.in-Err-TooManyRows.ensures.full (ap Err c.in-Err-TooManyRows.field-0-is)))
