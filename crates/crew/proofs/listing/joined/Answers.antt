use Rattle.std.proofs.Common.{◌≡◌, [], ◌∷◌, arith, sym, subst}
use Rattle.std.proofs.lemmas.List.{nil_from_length}
use Rattle.std.specs.Vec.Iter.{into_iter_items}
use Rattle.crew.specs.Gathering.{AreMadeOf}
use Rattle.crew.proofs.PartsLemmas.{last_one, may_end, may_join, two_joined, with_none}
use Rattle.groups.specs.Folds.{Folds}
use Rattle.crew.proofs.listing.joined.Goals as goal

pub loop-folding-init : goal.loop-folding-init
loop-folding-init g c = λ rows made.
    let folds = Folds c.args.plan.now in
    subst (λ left. AreMadeOf folds rows (c.in_ok-all.all ∷ left)) (sym c.into_iter-folding-iterator.ensures.into_iter_gives.0)
    (with_none folds rows c.in_ok-all.all c.args.foldings.items c.in_ok-all.ensures made)

pub join-requires : goal.join-requires
join-requires g c =
    let plan = c.args.plan.now in
    let may = c.requires in
    may_join plan may.rows may.few c.loop-folding.all c.in-Some.folding (into_iter_items c.next.new.self)
    (subst (λ left. AreMadeOf (Folds plan) may.rows (c.loop-folding.all ∷ left)) c.in-Some.ensures.steps.0 (c.loop-folding.invariant may.rows may.made))

pub loop-folding-preserved : goal.loop-folding-preserved
loop-folding-preserved g c = λ rows made.
    let plan = c.args.plan.now in
    two_joined (Folds plan) rows c.loop-folding.all c.in-Some.folding c.in_ok-all-2.all (into_iter_items c.next.new.self)
    (subst (λ left. AreMadeOf (Folds plan) rows (c.loop-folding.all ∷ left)) c.in-Some.ensures.steps.0 (c.loop-folding.invariant rows made))
    (c.in_ok-all-2.ensures plan)

pub returns-clause-folds : goal.returns-clause-folds
returns-clause-folds g c = λ rows made.
    let plan = c.args.plan.now in
    let iterator = c.loop-folding.folding-iterator in
    let none : into_iter_items iterator ≡ [] = nil_from_length (into_iter_items iterator) (omega (arith, iterator.rest.ok, c.in-None.ensures.steps.0)) in
    let it = last_one (Folds plan) rows c.loop-folding.all (subst (λ left. AreMadeOf (Folds plan) rows (c.loop-folding.all ∷ left)) none (c.loop-folding.invariant rows made)) in
    c.any_order.ensures.folds plan it.rows rows c.loop-folding.all it.order it.held

pub returns-clause-end : goal.returns-clause-end
returns-clause-end g c =
    let plan = c.args.plan.now in
    let may = c.requires in
    let iterator = c.loop-folding.folding-iterator in
    let none : into_iter_items iterator ≡ [] = nil_from_length (into_iter_items iterator) (omega (arith, iterator.rest.ok, c.in-None.ensures.steps.0)) in
    may_end plan may.rows may.few c.loop-folding.all (subst (λ left. AreMadeOf (Folds plan) may.rows (c.loop-folding.all ∷ left)) none (c.loop-folding.invariant may.rows may.made))
