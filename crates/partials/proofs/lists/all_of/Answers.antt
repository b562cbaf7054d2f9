use Rattle.std.proofs.Common.{◌≡◌, ◌∙◌, ◌++◌, ◌∷◌, [], Some, add-one, ap, arith, map, sym, take}
use Rattle.std.proofs.lemmas.List.{get_or-map, length-map, take_all}
use Rattle.std.proofs.lemmas.Option.{same_Some}
use Rattle.serde_json.specs.View.{view}
use Rattle.partials.proofs.ListsLemmas.{as_long, beside_at}
use Rattle.partials.proofs.lists.all_of.Goals as goal

pub returns-in_default : goal.returns-in_default
returns-in_default g c = λ xs zip.
    let values = c.args.values.now in
    let i = c.loop-value.value-index in
    let at = beside_at g.T.Spelt.spells xs (map view values) i (view c.value-item.result) zip (omega (arith, c.loop-value-test.true, length-map values view))
    (ap view c.value-item.is ∙ sym (get_or-map view values i c.value-item.result (view c.value-item.result) c.loop-value-test.true)) in
    let there = c.in_ok-item.ensures at.one at.is in
    let never = sym c.in_default.is ∙ there in
    absurd (cc)

pub loop-value-preserved : goal.loop-value-preserved
loop-value-preserved g c = λ xs zip.
    let values = c.args.values.now in
    let i = c.loop-value.value-index in
    let at = beside_at g.T.Spelt.spells xs (map view values) i (view c.value-item.result) zip (omega (arith, c.loop-value-test.true, length-map values view))
    (ap view c.value-item.is ∙ sym (get_or-map view values i c.value-item.result (view c.value-item.result) c.loop-value-test.true)) in
    let same : c.in-Some.item ≡ at.one = same_Some _ _ (sym c.in-Some.is ∙ c.in_ok-item.ensures at.one at.is) in
    c.in_ok-push.ensures.items ∙ ap (λ l. l ++ c.in-Some.item ∷ []) (c.loop-value.invariant xs zip) ∙ ap (λ x. take i xs ++ x ∷ []) same ∙ sym at.more ∙ ap (λ n. take n xs) (sym (add-one i))

pub returns : goal.returns
returns g c = λ xs zip.
    let all : take c.loop-value.value-index xs ≡ xs =
    take_all c.loop-value.value-index xs (omega (arith, c.loop-value-test.false, as_long _ _ _ zip, length-map c.args.values.now view)) in
    ap Some (c.loop-value.invariant xs zip ∙ all)
