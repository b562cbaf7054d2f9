-- The parts of a query that end its tokens: what a reader of them answers.
use Rattle.std.specs.Prelude.{◌≡◌, ℕ, List, [], Option}
use Rattle.cells.specs.declared.token.Token.{Token}
use Rattle.query.specs.Grammar.{DISTINCT, Separated, SpellsElement, SpellsGroups, SpellsHaving, SpellsItem, SpellsMark, SpellsName, SpellsPredicate, SpellsWhere, comma}
use Rattle.query.specs.Trees.{PredicateTree}
use Rattle.query.specs.Values.{FromTree, GroupedTree, GroupsTree, HavingTree}
use Rattle.query.specs.declared.item.Item.{Item}
use Rattle.query.specs.declared.test.Test.{Test}

-- the tokens are a spelling, and nothing follows it
pub record Whole {X : Type 0} (Spells : List Token → X → Type 0) (ts : List Token) (x : X) (rest : List Token) : Type 0 where
  pub spells : Spells ts x
  pub ended : rest ≡ []

-- [ DISTINCT ] element { "," element }: what follows GROUP BY
abbrev pub SpellsBy : List Token → GroupsTree → List Token → Type 0
SpellsBy ts groups rest = (us : List Token) × SpellsMark DISTINCT ts groups.distinct us × Separated comma SpellsElement us groups.elements rest

-- a predicate over items at the end
abbrev pub SpellsLast : List Token → PredicateTree (Test (Item (List ℕ))) → Type 0
SpellsLast ts p = SpellsPredicate SpellsItem ts p []

-- [ HAVING .. ] at the end
abbrev pub SpellsEnd : List Token → HavingTree → Type 0
SpellsEnd ts having = SpellsHaving ts having []

-- [ GROUP BY .. ] [ HAVING .. ] at the end
abbrev pub SpellsGrouped : List Token → GroupedTree → Type 0
SpellsGrouped ts grouped = (us : List Token) × SpellsGroups ts grouped.groups us × SpellsEnd us grouped.having

-- [ WHERE .. ] [ GROUP BY .. ] [ HAVING .. ] at the end
abbrev pub SpellsTail : List Token → Option (PredicateTree (Test (List ℕ))) × GroupedTree → Type 0
SpellsTail ts x = (ws : List Token) × SpellsWhere ts x.0 ws × SpellsGrouped ws x.1

-- the table's name, and then that
abbrev pub SpellsFrom : List Token → FromTree → Type 0
SpellsFrom ts from = (vs : List Token) × SpellsName ts from.table vs × SpellsTail vs (from.condition, from.grouped)
