use Rattle.std.proofs.Common.{◌≡◌, ◌∷◌, ◌∙◌, [], ap, arith, length, rules, subst, sym}
use Rattle.std.proofs.lemmas.List.{nil_from_length}
use Rattle.std.specs.Prelude.{MatchOption}
use Rattle.groups.specs.Accumulators.{aggregations_of}
use Rattle.groups.specs.Partials.{StandsAt}
use Rattle.groups.specs.Told.{TellsSet}
use Rattle.groups.proofs.ToldLemmas.{as_long, made_all, made_more, next_set}
use Rattle.groups.proofs.partial.Partial.of_told.Goals as goal

pub returns-then-len-sets : goal.returns-then-len-sets
returns-then-len-sets g c = λ rows tells.
    omega (arith, as_long _ _ _ tells.each, c.if-len-sets.true, c.len.ensures, ap length c.sets.ensures)

pub returns-in_default : goal.returns-in_default
returns-in_default g c = λ rows tells.
    let hash = g.H.KeyHash-2.hash_of in
    let plan = c.args.plan.now in
    let old = c.loop-set.set-iterator.rest.items in
    let left = c.next.new.self.rest.items in
    let asked : c.as_slice.result.now ≡ aggregations_of plan.items = c.as_slice.ensures.value ∙ c.in_ok-aggregations.ensures ∙ ap aggregations_of c.items.ensures.items in
    let took : old ≡ c.in-Some.set ∷ left = search rules in
    let next = next_set hash plan rows c.loop-set.tries.items old (c.loop-set.invariant rows tells) c.in-Some.set left took in
    subst (λ o. MatchOption o ⊥ (StandsAt hash c.as_slice.result.now next.set rows)) c.in_default.is
    (c.in_ok-groups.ensures next.set rows (subst (λ a. TellsSet a next.set rows c.in-Some.set) (sym asked) next.tells))

pub loop-set-preserved : goal.loop-set-preserved
loop-set-preserved g c = λ rows tells.
    let hash = g.H.KeyHash-2.hash_of in
    let plan = c.args.plan.now in
    let old = c.loop-set.set-iterator.rest.items in
    let left = c.next.new.self.rest.items in
    let asked : c.as_slice.result.now ≡ aggregations_of plan.items = c.as_slice.ensures.value ∙ c.in_ok-aggregations.ensures ∙ ap aggregations_of c.items.ensures.items in
    let took : old ≡ c.in-Some.set ∷ left = search rules in
    let now = c.loop-set.invariant rows tells in
    let next = next_set hash plan rows c.loop-set.tries.items old now c.in-Some.set left took in
    made_more hash plan rows c.loop-set.tries.items old now c.in-Some.set left next c.in-Some-2.groups c.push.new.self.items
    (subst (λ a. StandsAt hash a next.set rows c.in-Some-2.groups) asked
    (subst (λ o. MatchOption o ⊥ (StandsAt hash c.as_slice.result.now next.set rows)) c.in-Some-2.is
    (c.in_ok-groups.ensures next.set rows (subst (λ a. TellsSet a next.set rows c.in-Some.set) (sym asked) next.tells))))
    c.in_ok-push.ensures.items

pub returns : goal.returns
returns g c = λ rows tells.
    let none : c.loop-set.set-iterator.rest.items ≡ [] =
    nil_from_length c.loop-set.set-iterator.rest.items (omega (arith, c.loop-set.set-iterator.rest.ok, c.in-None.ensures.steps.0)) in
    made_all g.H.KeyHash-2.hash_of c.args.plan.now rows c.loop-set.tries.items c.loop-set.set-iterator.rest.items (c.loop-set.invariant rows tells) none
