-- The tree of an element, by its form.
use Rattle.query.specs.Trees.{ElementTree, Empty, OneUnit, Rollup, Cube, Sets, elements_of}
use Rattle.query.specs.declared.element.ElementForm.{ElementForm}
use Rattle.query.specs.declared.element.ElementForm.TheVariants as form

abbrev pub element_tree : ElementForm → ElementTree
element_tree form.Empty = Empty
element_tree (form.Unit u) = OneUnit u
element_tree (form.Rollup us) = Rollup us.items
element_tree (form.Cube us) = Cube us.items
element_tree (form.Sets es) = Sets (elements_of es.items)
