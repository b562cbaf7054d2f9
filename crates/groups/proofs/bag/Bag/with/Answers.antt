use Rattle.std.proofs.Common.{◌++◌, ◌∙◌, ap, ap₂, arith, length}
use Rattle.std.proofs.lemmas.List.{length-append}
use Rattle.groups.proofs.bag.Bag.with.Goals as goal

pub invariant_of-result : goal.invariant_of-result
invariant_of-result g c = λ k d h. omega (
  arith,
  c.self.invariant k d h,
  ap (λ l. length l) c.in_ok-append.ensures.items,
  length-append c.self.inside.groups.items c.more.inside.groups.items,
)

pub returns : goal.returns
returns g c = c.in_ok-append.ensures.items ∙ ap₂ (λ x y. x ++ y) c.self.view_is c.more.view_is
