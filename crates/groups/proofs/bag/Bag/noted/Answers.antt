use Rattle.std.proofs.Common.{◌<◌, arith, length, nat_eq}
use Rattle.std.proofs.lemmas.Map.Views.{All-values-PutsEntry}
use Rattle.groups.proofs.bag.Bag.noted.Goals as goal

pub loop-index-preserved : goal.loop-index-preserved
loop-index-preserved g c =
    All-values-PutsEntry nat_eq (λ p. p < length c.self.inside.groups.items) c.loop-index.by_hash c.insert.new.self c.hash_of_all-hash.result c.loop-index.index _
    c.in_ok-insert.ensures.entries c.loop-index.invariant (omega (arith, c.loop-index-test.true, c.len-index-end.ensures, c.self.inside.groups.ok.0))
