use Rattle.std.proofs.Common.{◌≡◌, [], ◌∷◌, ◌∙◌, arith, sym, subst}
use Rattle.std.proofs.lemmas.List.{nil_from_length}
use Rattle.std.specs.Vec.Iter.{into_iter_items}
use Rattle.crew.specs.Gathered.{Gathers}
use Rattle.crew.specs.Gathering.{AreMadeOf}
use Rattle.crew.proofs.GatheredLemmas.{last_of_all, nobody, two_meet}
use Rattle.crew.proofs.PartsLemmas.{two_joined}
use Rattle.crew.proofs.gathering.all_together.Goals as goal

pub returns-in_default : goal.returns-in_default
returns-in_default g c = λ rows are.
    let plan = c.args.plan.now in
    let given = c.into_iter-gathered.result in
    let none : into_iter_items given ≡ [] = nil_from_length (into_iter_items given) (omega (arith, given.rest.ok, c.in_default.ensures.cases.0)) in
    nobody plan rows c.in_ok-new.field-0 (subst (AreMadeOf (Gathers plan) rows) (sym c.into_iter-gathered.ensures.rest ∙ none) are) c.in_ok-new.ensures

pub loop-one-init : goal.loop-one-init
loop-one-init g c = λ rows are.
    let plan = c.args.plan.now in
    subst (λ iterator. AreMadeOf (Gathers plan) rows (c.in-Some.all ∷ into_iter_items iterator)) (sym c.into_iter-one-iterator.ensures.into_iter_gives)
    (subst (AreMadeOf (Gathers plan) rows) (sym c.into_iter-gathered.ensures.rest ∙ c.in-Some.ensures.items) are)

pub with-requires : goal.with-requires
with-requires g c =
    let plan = c.args.plan.now in
    let may = c.requires in
    two_meet plan may.rows may.few c.loop-one.all c.in-Some-one.one (into_iter_items c.next-in-loop-one.new.self)
    (subst (λ left. AreMadeOf (Gathers plan) may.rows (c.loop-one.all ∷ left)) c.in-Some-one.ensures.steps.0 (c.loop-one.invariant may.rows may.are))

pub loop-one-preserved : goal.loop-one-preserved
loop-one-preserved g c = λ rows are.
    let plan = c.args.plan.now in
    two_joined (Gathers plan) rows c.loop-one.all c.in-Some-one.one c.in_ok-all.all (into_iter_items c.next-in-loop-one.new.self)
    (subst (λ left. AreMadeOf (Gathers plan) rows (c.loop-one.all ∷ left)) c.in-Some-one.ensures.steps.0 (c.loop-one.invariant rows are))
    (c.in_ok-all.ensures plan)

pub returns : goal.returns
returns g c = λ rows are.
    let plan = c.args.plan.now in
    let iterator = c.loop-one.one-iterator in
    let none : into_iter_items iterator ≡ [] = nil_from_length (into_iter_items iterator) (omega (arith, iterator.rest.ok, c.in-None.ensures.steps.0)) in
    last_of_all plan rows c.loop-one.all (subst (λ left. AreMadeOf (Gathers plan) rows (c.loop-one.all ∷ left)) none (c.loop-one.invariant rows are))
