use Rattle.std.proofs.Common.{◌≡◌, map, subst, sym, true}
use Rattle.std.specs.Str.Lines.{lines}
use Rattle.loader.specs.Shards.{ShardValue, takes}
use Rattle.script.proofs.OwnLemmas.{loads_badly, takes_whole, told_beside}
use Rattle.script.proofs.own.tell_parts.Goals as goal

pub returns-in-Some-clause-ends : goal.returns-in-Some-clause-ends
returns-in-Some-clause-ends g c =
    loads_badly (takes g.H.KeyHash-1.hash_of c.whole.result) (map (λ p. p.items) c.args.parts.now) (lines c.args.script.now) c.in_ok-tolds.tolds.items c.in-Some.line c.in-Some.fault
    c.in_ok-tolds.ensures.told (rw c.as_slice.ensures.value at c.in-Some.ensures.some)

pub returns-in-None-clause-told : goal.returns-in-None-clause-told
returns-in-None-clause-told g c = λ givens own have fit.
    let hash = g.H.KeyHash-1.hash_of in
    told_beside givens own (map (λ p. p.items) c.args.parts.now) (takes hash c.whole.result) (λ key. subst (λ (s : ShardValue). takes hash s key ≡ true) (sym c.whole.ensures) (takes_whole hash key))
    (lines c.args.script.now) c.in_ok-tolds.tolds.items c.in_ok-tolds.ensures.told have (c.requires.rows givens) fit
