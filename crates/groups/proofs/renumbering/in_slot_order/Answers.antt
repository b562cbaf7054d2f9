use Rattle.std.proofs.Common.{◌≡◌, ◌∙◌, ℕ, List, ap₂, arith, get_or, length, map, refl, subst}
use Rattle.groups.specs.Parting.{AreTurned, codes_at, no_part}
use Rattle.groups.specs.declared.parting.Part.{Part}
use Rattle.groups.proofs.RenumberingLemmas.{renumbered}
use Rattle.groups.proofs.renumbering.in_slot_order.Goals as goal

pub returns : goal.returns
returns c = λ groups codes are.
    let parts : List Part = c.args.made.parts.items in
    let order : List ℕ = c.in_ok-order.order.items in
    let ranks : List ℕ = c.in_ok-ranks.ranks.items in
    let count : c.len-2.result ≡ length parts = omega (arith, c.len-2.ensures, c.args.made.parts.ok.0) in
    let turned : AreTurned (length parts) order ranks =
    subst (λ n. AreTurned n order ranks) count
    (subst (λ l. AreTurned c.len-2.result l ranks) c.as_slice-2.ensures.value
    (subst (λ l. AreTurned c.len-2.result c.as_slice-2.result.now l) c.as_slice-3.ensures.value (c.if-not-are_turned.ensures refl))) in
    renumbered parts order ranks turned groups codes c.args.made.numbers.items c.in_ok-numbers.numbers.items c.in_ok-parts.parts.items
    (c.in_ok-numbers.ensures ∙ ap₂ codes_at c.as_slice-5.ensures.value c.as_slice-4.ensures.value)
    (c.in_ok-parts.ensures ∙ ap₂ (λ (ps : List Part) (ns : List ℕ). map (λ n. get_or ps n no_part) ns) c.as_slice-6.ensures.value c.as_slice-7.ensures.value) are
