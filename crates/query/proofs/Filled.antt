-- No GROUPING SETS that is spelt is without elements.
use Rattle.std.proofs.Common.{List}
use Rattle.cells.specs.declared.token.Token.{Token}
use Rattle.query.specs.Grammar.{Separated, last, next, SpellsElement, empty, unit, rollup, cube, sets, SpellsElements, last_element, next_element, SpellsGroups, no_groups, group_by, SpellsQuery, query, comma}
use Rattle.query.specs.Trees.{ElementTree, ElementTrees}
use Rattle.query.specs.Values.{AreFilled, GroupsTree, HasElements, IsEachFilled, IsFilled, QueryTree}

mutual
  element_filled : {ts rest : List Token} {e : ElementTree} → SpellsElement ts e rest → IsFilled e
  element_filled empty = tt
  element_filled (unit h) = tt
  element_filled (rollup h) = tt
  element_filled (cube h) = tt
  element_filled (sets h) = elements_filled h

  elements_filled : {ts rest : List Token} {es : ElementTrees} → SpellsElements ts es rest → HasElements es × IsEachFilled es
  elements_filled (last_element h) = (tt, (element_filled h, tt))
  elements_filled (next_element h more) = (tt, (element_filled h, (elements_filled more).1))

list_filled : {ts rest : List Token} {es : List ElementTree} → Separated comma SpellsElement ts es rest → AreFilled es
list_filled (last h) = (element_filled h, tt)
list_filled (next h more) = (element_filled h, list_filled more)

groups_filled : {ts rest : List Token} {g : GroupsTree} → SpellsGroups ts g rest → AreFilled g.elements
groups_filled no_groups = (tt, tt)
groups_filled (group_by m h) = list_filled h

pub query_filled : {ts : List Token} {q : QueryTree} → SpellsQuery ts q → AreFilled q.groups.elements
query_filled (query i n w g h) = groups_filled g
