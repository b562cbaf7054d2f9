use Rattle.std.proofs.Common.{sym}
use Rattle.trie.proofs.FoundLemmas.{find-none}
use Rattle.trie.proofs.PlacesLemmas.{found_at, none_at}
use Rattle.std.specs.Ordering.{is_eq}
use Rattle.trie.specs.Holding.{pairs_of}
use Rattle.trie.proofs.bucket.find.Goals as goal

pub returns-in-Ok : goal.returns-in-Ok
returns-in-Ok g c =
    let is = rw c.deref.ensures.value at c.in-Ok.ensures in
    sym (found_at g.K.Ord.cmp (λ p. p.value) c.args.key.now c.args.pairs.now.items c.in-Ok.place is c.index.result.now c.index.ensures)

pub returns-in-Err : goal.returns-in-Err
returns-in-Err g c =
    let is = rw c.deref.ensures.value at c.in-Err.ensures in
    sym (find-none (λ e. is_eq (g.K.Ord.cmp c.args.key.now e.0)) (pairs_of c.args.pairs.now.items)
    (none_at g.K.Ord.cmp (λ p. p.value) c.args.key.now c.args.pairs.now.items c.in-Err.field-0 is))
