use Rattle.std.proofs.Common.{arith, map}
use Rattle.std.proofs.lemmas.Result.{IfOk-weaker}
use Rattle.board.specs.Editions.{schema}
use Rattle.loader.specs.Shards.{takes}
use Rattle.script.proofs.CommandsLemmas.{listing_short}
use Rattle.script.proofs.StatementsLemmas.{deed_read}
use Rattle.script.proofs.StepsLemmas.{both_ok}
use Rattle.script.proofs.TellingLemmas.{tells_load, tells_publish, tells_report}
use Rattle.script.proofs.telling.tell_kept.Goals as goal

pub tell_load-requires : goal.tell_load-requires
tell_load-requires g c =
    let does = deed_read c.args.line.bytes.now c.schema.ensures c.in-Ok-Load.ensures.exact c.in-Ok-Load.field-0-is in
    omega (arith, listing_short (schema c.args.ledger.now) c.args.line.bytes.now c.in-Ok-Load.listing.now does, c.requires.short)

pub returns-in-Ok-Load-clause-step : goal.returns-in-Ok-Load-clause-step
returns-in-Ok-Load-clause-step g c =
    let does = deed_read c.args.line.bytes.now c.schema.ensures c.in-Ok-Load.ensures.exact c.in-Ok-Load.field-0-is in
    IfOk-weaker c.tell_load.result _ _
    (λ it loads. tells_load (takes g.H.KeyHash-1.hash_of c.args.sharing.now.shard.now) (map (λ p. p.items) c.args.sharing.now.parts.now) c.args.sharing.now.how.now.rows c.args.line.bytes.now c.args.ledger.now c.tell_load.new.ledger c.in-Ok-Load.listing.now it does loads)
    c.tell_load.ensures.step

pub returns-in-Ok-Publish-clause-step : goal.returns-in-Ok-Publish-clause-step
returns-in-Ok-Publish-clause-step g c =
    let does = deed_read c.args.line.bytes.now c.schema.ensures c.in-Ok-Publish.ensures.exact c.in-Ok-Publish.field-0-is in
    both_ok c.publish.result _ _ _
    (λ it publishes nothing. tells_publish (takes g.H.KeyHash-1.hash_of c.args.sharing.now.shard.now) (map (λ p. p.items) c.args.sharing.now.parts.now) c.args.sharing.now.how.now.rows c.args.line.bytes.now c.args.ledger.now c.publish.new.ledger it does publishes nothing)
    c.publish.ensures.published c.publish.ensures.nothing

pub returns-in-Ok-Report-clause-step : goal.returns-in-Ok-Report-clause-step
returns-in-Ok-Report-clause-step g c =
    let does = deed_read c.args.line.bytes.now c.schema.ensures c.in-Ok-Report.ensures.exact c.in-Ok-Report.field-0-is in
    IfOk-weaker c.tell_report.result _ _
    (λ it tells. tells_report (takes g.H.KeyHash-1.hash_of c.args.sharing.now.shard.now) (map (λ p. p.items) c.args.sharing.now.parts.now) c.args.sharing.now.how.now.rows c.args.line.bytes.now c.args.ledger.now c.in-Ok-Report.query.now it does tells)
    (rw c.last.ensures at c.tell_report.ensures.told)
