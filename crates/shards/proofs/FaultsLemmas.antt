-- The fault that a value spells.
use Rattle.std.proofs.Common.{Bor, ◌≡◌, ◌∙◌, ◌∷◌, [], ℕ, List, Option, Some, ap, arith, get_or, subst, sym}
use Rattle.std.proofs.lemmas.Option.{same_Some}
use Rattle.std.specs.Prelude.{MatchOption, codes}
use Rattle.serde_json.specs.Data.{Data, array}
use Rattle.serde_json.specs.Find.{as_str}
use Rattle.serde_json.specs.View.{items_of, view}
use Rattle.serde_json.specs.declared.value.Value.{Value}
use Rattle.partials.specs.Spelling.{SpellsCount, SpellsPair}
use Rattle.script.specs.declared.fault.Fault.{Fault}
use Rattle.script.specs.declared.fault.Fault.TheVariants.{Line, Part}
use Rattle.shards.specs.Documents.{SpellsFault}

-- that of a part, where the word says so
pub part_read : (fault : Fault) (d : Data) (both : Option (Bor Value × Bor Value)) (word behind : Bor Value) (r : Option Fault) → SpellsFault fault d →
    ((a b : Data) → d ≡ array (items_of (a ∷ b ∷ [])) → MatchOption both ⊥ (λ both. (view both.0.now ≡ a) × (view both.1.now ≡ b))) → both ≡ Some (word, behind) →
    as_str (view word.now) ≡ Some (codes "part") → ((part entry : ℕ) → SpellsPair (SpellsCount part) (SpellsCount entry) (view behind.now) → r ≡ Some (Part part entry)) → r ≡ Some fault
part_read (Line rule) d both word behind r spells found is says read =
    let two = subst (λ o. MatchOption o ⊥ (λ both. (view both.0.now ≡ spells.first) × (view both.1.now ≡ spells.second))) is (found spells.first spells.second spells.is) in
    let other : codes "part" ≡ codes "line" = same_Some _ _ (sym says ∙ ap as_str (two.0 ∙ spells.is_first)) in
    absurd (omega (arith, ap (λ (l : List ℕ). get_or l 0 0) other))
part_read (Part part entry) d both word behind r spells found is says read =
    let two = subst (λ o. MatchOption o ⊥ (λ both. (view both.0.now ≡ spells.first) × (view both.1.now ≡ spells.second))) is (found spells.first spells.second spells.is) in
    read part entry (subst (SpellsPair (SpellsCount part) (SpellsCount entry)) (sym two.1) spells.is_second)
