use Rattle.std.proofs.Common.{[], ◌≡◌, ◌<◌, ◌+◌, ◌∷◌, ◌++◌, ◌∙◌, ap, arith, length, nat_eq}
use Rattle.std.proofs.lemmas.List.{length-append}
use Rattle.std.proofs.lemmas.Map.Views.{All-values-PutsEntry}
use Rattle.groups.proofs.bag.Bag.add.Goals as goal

pub invariant_of-self-2 : goal.invariant_of-self-2
invariant_of-self-2 g c =
    let longer : length c.push.new.self.items ≡ length c.self.inside.groups.items + 1 =
    ap (λ l. length l) c.in_ok-push.ensures.items ∙ length-append c.self.inside.groups.items _ in
    All-values-PutsEntry nat_eq (λ p. p < length c.push.new.self.items) c.self.inside.by_hash c.insert.new.self c.args.hash c.len-index.result _
    c.in_ok-insert.ensures.entries (λ k d h. omega (arith, c.self.invariant k d h, longer)) (omega (arith, c.len-index.ensures, c.self.inside.groups.ok.0, longer))

pub returns : goal.returns
returns g c = c.in_ok-push.ensures.items ∙ ap (λ l. l ++ (c.args.tuple, c.args.accumulators) ∷ []) c.self.view_is
