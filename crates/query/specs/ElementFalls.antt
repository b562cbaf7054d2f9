-- Each element that stands in an element is smaller than it, so that a recursion over elements ends.
use Rattle.std.specs.Prelude.{◌+◌, ◌≤◌, max, List, [], ◌∷◌}
use Rattle.std.proofs.Common.{arith}
use denote.Param.Weighed.{most}
use Rattle.query.specs.Trees.{ElementTree, elements_of, element_size, elements_size}
use Rattle.query.specs.ElementViews.{element_tree}
use Rattle.query.specs.declared.element.ElementForm.{ElementForm}
use Rattle.query.specs.declared.element.ElementForm.TheVariants as form
use Rattle.query.specs.declared.element.Element.TheDeep.{deep-ElementForm}

most_le-elements_of : (es : List ElementTree) → most (λ e. element_size e + 1) es ≤ elements_size (elements_of es)
most_le-elements_of [] = omega arith
most_le-elements_of (e ∷ es) = omega (arith, most_le-elements_of es)

pub element_falls : (x : ElementForm) → max (deep-ElementForm x) 0 ≤ element_size (element_tree x)
element_falls form.Empty = omega arith
element_falls (form.Unit u) = omega arith
element_falls (form.Rollup us) = omega arith
element_falls (form.Cube us) = omega arith
element_falls (form.Sets es) = omega (arith, most_le-elements_of es.items)
