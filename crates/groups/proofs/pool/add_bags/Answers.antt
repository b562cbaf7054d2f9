use Rattle.std.proofs.Common.{◌+◌, ap, arith, length, refl, sym, subst, ◌∙◌, ◌≡◌, true}
use Rattle.std.proofs.lemmas.List.{take_all}
use Rattle.groups.specs.Pools.{HaveSetsOf, has_set}
use Rattle.groups.proofs.PoolLemmas.{AddsTo, adds_to_more, finer_at, grown_finer, grown_may, grows_not}
use Rattle.groups.proofs.pool.add_bags.Goals as goal
use Rattle.groups.proofs.pool.add_bags.Goals.{then-len-columns+in_ok-add_bag, else-len-columns}

pub add_bag-requires-clause-can : goal.add_bag-requires-clause-can
add_bag-requires-clause-can g c = grown_may c.args.pool.now.items c.loop-set.pool.items c.loop-set.invariant.grows c.requires.can

pub loop-set-preserved : goal.loop-set-preserved
loop-set-preserved g c = elim c.if-len-columns.branch [
  | then-len-columns+in_ok-add_bag w ↦
      subst (λ v. AddsTo c.args.sets.now c.args.columns (c.loop-set.set-index + 1) c.args.pool.now.items v.items) (sym w.pool-is)
      (adds_to_more c.args.sets.now c.args.columns c.args.sets.now c.loop-set.set-index c.set-item.result c.args.pool.now.items c.loop-set.pool.items
      w.add_bag.new.pool.items refl c.loop-set-test.true c.set-item.is w.in_ok-add_bag.ensures.grows
      (λ _. subst (λ s. has_set w.add_bag.new.pool.items s ≡ true) (w.as_slice.ensures.value ∙ c.set.view_is) w.in_ok-add_bag.ensures.there) c.loop-set.invariant)
  | else-len-columns w ↦
      subst (λ v. AddsTo c.args.sets.now c.args.columns (c.loop-set.set-index + 1) c.args.pool.now.items v.items) (sym w.pool-is)
      (adds_to_more c.args.sets.now c.args.columns c.args.sets.now c.loop-set.set-index c.set-item.result c.args.pool.now.items c.loop-set.pool.items
      c.loop-set.pool.items refl c.loop-set-test.true c.set-item.is (grows_not _ _ refl)
      (λ many. absurd (w.if-len-columns.false (omega (arith, c.len.ensures, c.set.inside.columns.ok.0, ap (λ s. length s) c.set.view_is, many)))) c.loop-set.invariant)
]

pub loop-set-init : goal.loop-set-init
loop-set-init g c = record { grows = grows_not _ _ refl; there = tt }

pub add_bag-requires-clause-finer : goal.add_bag-requires-clause-finer
add_bag-requires-clause-finer g c =
    finer_at c.loop-set.pool.items c.args.sets.now c.args.sets.now c.loop-set.set-index c.set-item.result c.as_slice.result.now
    (grown_finer c.args.pool.now.items c.loop-set.pool.items c.args.sets.now c.loop-set.invariant.grows c.requires.finer) refl c.loop-set-test.true c.set-item.is
    (c.as_slice.ensures.value ∙ c.set.view_is)

pub returns-clause-grows : goal.returns-clause-grows
returns-clause-grows g c = c.loop-set.invariant.grows

pub returns-clause-there : goal.returns-clause-there
returns-clause-there g c =
    subst (HaveSetsOf c.args.columns c.loop-set.pool.items) (take_all c.loop-set.set-index c.args.sets.now c.loop-set-test.false) c.loop-set.invariant.there
