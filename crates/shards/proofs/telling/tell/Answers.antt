use Rattle.std.proofs.Common.{[], subst, sym}
use Rattle.std.specs.Str.Lines.{lines}
use Rattle.loader.specs.Shards.{shard_of, takes}
use Rattle.script.specs.Told.{AreTold, FitAll}
use Rattle.shards.specs.declared.division.Division.TheVariants.{Keys}
use Rattle.shards.proofs.ToldsLemmas.{each_of, one_shard}
use Rattle.shards.proofs.telling.tell.Goals as goal

pub returns-in-Ok-document_of-clause-told : goal.returns-in-Ok-document_of-clause-told
returns-in-Ok-document_of-clause-told g c = λ givens parts fit.
    let hash = g.H.KeyHash-1.hash_of in
    let told = c.in-Ok.ensures.told givens parts (subst (λ s. FitAll givens [] (lines s)) (sym c.as_bytes.ensures.value) fit) in
    one_shard (shard_of hash) givens Keys c.args.shard.now c.args.script.now c.in-Ok.tolds.items c.in-Ok-document_of.document c.in-Ok-document_of.ensures.is
    (subst (λ s. AreTold givens (takes hash c.args.shard.now) [] (lines s) c.in-Ok.tolds.items) c.as_bytes.ensures.value told) (each_of hash c.args.shard.now.count c.in-Ok-document_of.ensures.some)
