use Rattle.std.proofs.Common.{Some, ap₂, sym, ◌≡◌, ◌∙◌, List, subst}
use Rattle.std.specs.Prelude.{MatchOption}
use Rattle.serde_json.specs.View.{view}
use Rattle.aggs.specs.declared.kept.Kept.{Kept}
use Rattle.cells.specs.declared.cell.Cell.{Cell}
use Rattle.partials.specs.Spelling.{SpellsCell, SpellsKept, SpellsList}
use Rattle.partials.proofs.ListsLemmas.{list_found, list_missed}
use Rattle.partials.proofs.group.GroupSpelt.of_value.Goals as goal

pub returns-in_default-2 : goal.returns-in_default-2
returns-in_default-2 c = λ x spells.
    let both = subst (λ o. MatchOption o ⊥ (λ both. (view both.0.now ≡ spells.first) × (view both.1.now ≡ spells.second))) c.in-Some.is (c.both_of.ensures spells.first spells.second spells.is) in
    absurd (list_missed c.in_ok-tuple.field-0 x.tuple (c.in_ok-tuple.ensures x.tuple (subst (SpellsList SpellsCell x.tuple) (sym both.0) spells.is_first)) c.in_default-2.is)

pub returns-in_default-3 : goal.returns-in_default-3
returns-in_default-3 c = λ x spells.
    let both = subst (λ o. MatchOption o ⊥ (λ both. (view both.0.now ≡ spells.first) × (view both.1.now ≡ spells.second))) c.in-Some.is (c.both_of.ensures spells.first spells.second spells.is) in
    absurd (list_missed c.in_ok-kept.field-0 x.kept (c.in_ok-kept.ensures x.kept (subst (SpellsList SpellsKept x.kept) (sym both.1) spells.is_second)) c.in_default-3.is)

pub returns : goal.returns
returns c = λ x spells.
    let both = subst (λ o. MatchOption o ⊥ (λ both. (view both.0.now ≡ spells.first) × (view both.1.now ≡ spells.second))) c.in-Some.is (c.both_of.ensures spells.first spells.second spells.is) in
    let tuple = list_found c.in_ok-tuple.field-0 c.in-Some-2.tuple x.tuple (c.in_ok-tuple.ensures x.tuple (subst (SpellsList SpellsCell x.tuple) (sym both.0) spells.is_first)) c.in-Some-2.is in
    let kept = list_found c.in_ok-kept.field-0 c.in-Some-3.kept x.kept (c.in_ok-kept.ensures x.kept (subst (SpellsList SpellsKept x.kept) (sym both.1) spells.is_second)) c.in-Some-3.is in
    ap₂ (λ (t : List Cell) (k : List Kept). Some (record { tuple = t; kept = k })) (c.new-tuple.ensures ∙ tuple) kept
