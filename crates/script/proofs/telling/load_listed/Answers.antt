use Rattle.std.proofs.Common.{map, subst}
use Rattle.std.proofs.lemmas.Result.{IfErr-weaker}
use Rattle.loader.specs.Loads.{AreTaken}
use Rattle.loader.specs.Parts.{part_of, rows_of_parts}
use Rattle.loader.specs.Shards.{takes}
use Rattle.script.proofs.TellingLemmas.{ends_loaded, loads_taken}
use Rattle.script.proofs.telling.load_listed.Goals as goal

pub returns-in-Ok-clause-step : goal.returns-in-Ok-clause-step
returns-in-Ok-clause-step g c =
    loads_taken (takes g.H.KeyHash.hash_of c.args.sharing.now.shard.now) c.later_puts_lie_over.ensures.over c.args.ledger.now c.lay_over.new.ledger _ c.in-Ok.rows c.lay_over.result
    (subst (λ t. AreTaken (takes g.H.KeyHash.hash_of c.args.sharing.now.shard.now) (rows_of_parts t (map part_of c.args.listed.now)) c.in-Ok.rows) c.schema.ensures c.in-Ok.ensures.loaded)
    c.lay_over.ensures.draft c.lay_over.ensures.nothing

pub returns-in-Ok-clause-ends : goal.returns-in-Ok-clause-ends
returns-in-Ok-clause-ends g c =
    IfErr-weaker c.lay_over.result _ _
    (λ e ends. ends_loaded (takes g.H.KeyHash.hash_of c.args.sharing.now.shard.now) c.later_puts_lie_over.ensures.over c.args.ledger.now c.args.line _ c.in-Ok.rows e
    (subst (λ t. AreTaken (takes g.H.KeyHash.hash_of c.args.sharing.now.shard.now) (rows_of_parts t (map part_of c.args.listed.now)) c.in-Ok.rows) c.schema.ensures c.in-Ok.ensures.loaded) ends)
    c.lay_over.ensures.ends
