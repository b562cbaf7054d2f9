use Rattle.std.proofs.Common.{[], map, subst, sym}
use Rattle.std.specs.Str.Lines.{lines}
use Rattle.script.specs.Own.{HaveOwn}
use Rattle.script.specs.Told.{AreTold, FitAll}
use Rattle.shards.specs.Answers.{belongs}
use Rattle.shards.specs.declared.division.Division.TheVariants.{Parts}
use Rattle.shards.proofs.ToldsLemmas.{one_shard}
use Rattle.shards.proofs.telling.tell_own.Goals as goal

pub returns-in-Ok-document_of-clause-told : goal.returns-in-Ok-document_of-clause-told
returns-in-Ok-document_of-clause-told g c = λ shard_of givens has fit.
    let takes = belongs shard_of c.args.shard.now in
    let told = c.in-Ok.ensures.told givens takes (subst (λ s. HaveOwn givens takes (map (λ p. p.items) c.args.parts.now) [] (lines s)) (sym c.as_bytes.ensures.value) has.own)
    (subst (λ s. FitAll givens [] (lines s)) (sym c.as_bytes.ensures.value) fit) in
    one_shard shard_of givens Parts c.args.shard.now c.args.script.now c.in-Ok.tolds.items c.in-Ok-document_of.document c.in-Ok-document_of.ensures.is
    (subst (λ s. AreTold givens takes [] (lines s) c.in-Ok.tolds.items) c.as_bytes.ensures.value told) has.each
