-- The grouping sets of GROUP BY (ISO/IEC 9075-2:1999, 7.9 <group by clause>). A set is a list of names, and stands for the
-- columns that it names. Sets that are equal all stay, as in the standard, unless DISTINCT is asked for (ISO/IEC 9075-2:2016,
-- feature T434); the order of the sets is this project's own.
use Rattle.std.specs.Prelude.{ℕ, ◌+◌, Bool, true, false, List, [], ◌∷◌, ◌++◌, bytes_eq, if◌then◌else◌, map, min}
use Rattle.std.specs.List.{flat_map, list_any}
use Rattle.cells.specs.declared.schema.Column.{Column}
use Rattle.query.specs.Different.{different}
use Rattle.query.specs.Limits.{set_limit}
use Rattle.query.specs.Values.{GroupsTree}
use Rattle.query.specs.Trees.{ElementTree, Empty, OneUnit, Rollup, Cube, Sets, ElementTrees, NoElements, MoreElements}

abbrev pub Names : Type 0
Names = List (List ℕ)

-- ROLLUP: the union of all units, of all but the last, and so on down to the empty set
abbrev pub rollup : List Names → List Names
rollup [] = [] ∷ []
rollup (u ∷ us) = map (λ s. u ++ s) (rollup us) ++ [] ∷ []

-- CUBE: the unions of all choices of units. They count down in binary, the first unit the highest digit
abbrev pub cube : List Names → List Names
cube [] = [] ∷ []
cube (u ∷ us) = map (λ s. u ++ s) (cube us) ++ cube us

abbrev mutual
  -- the sets of an element
  pub sets_of : ElementTree → List Names
  sets_of Empty = [] ∷ []
  sets_of (OneUnit u) = u ∷ []
  sets_of (Rollup us) = rollup us
  sets_of (Cube us) = cube us
  sets_of (Sets es) = sets_of_each es

  -- GROUPING SETS: the sets of its elements, one after another
  pub sets_of_each : ElementTrees → List Names
  sets_of_each NoElements = []
  sets_of_each (MoreElements e es) = sets_of e ++ sets_of_each es

-- GROUP BY: the union of each choice of one set from every element, the last varying fastest; with no element, the empty set
abbrev pub grouping_sets : List ElementTree → List Names
grouping_sets [] = [] ∷ []
grouping_sets (e ∷ es) = flat_map (λ s. map (λ r. s ++ r) (grouping_sets es)) (sets_of e)

-- whether the set names the column
abbrev pub names_column : Names → Column → Bool
names_column set column = list_any (λ n. bytes_eq column.name n) set

-- the indexes, counted from k, of the columns that the set names
abbrev pub indexes_from : ℕ → List Column → Names → List ℕ
indexes_from k [] set = []
indexes_from k (c ∷ cs) set = if names_column set c then k ∷ indexes_from (k + 1) cs set else indexes_from (k + 1) cs set

-- the indexes of the columns that the set names, rising
abbrev pub indexes : List Column → Names → List ℕ
indexes columns set = indexes_from 0 columns set

-- the sets that GROUP BY keeps: all of them, and with DISTINCT the different ones
abbrev pub kept_sets : Bool → List (List ℕ) → List (List ℕ)
kept_sets false sets = sets
kept_sets true sets = different bytes_eq sets

-- the sets of GROUP BY over the columns of a table, as indexes
abbrev pub resolved_sets : List Column → GroupsTree → List (List ℕ)
resolved_sets columns groups = kept_sets groups.distinct (map (indexes columns) (grouping_sets groups.elements))

-- a number of sets as far as it is counted: one above the limit stands for all that are more
abbrev pub counted : ℕ → ℕ
counted n = min (set_limit + 1) n
