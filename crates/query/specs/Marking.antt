-- Plans that tell which columns of the select list the grouping set of a row lacks, by GROUPING (ISO/IEC 9075-2:1999, 6.16).
use Rattle.std.specs.Prelude.{ℕ, List, [], ◌∷◌, ◌++◌, drop, length, map, take}
use Rattle.query.specs.Plans.{PlanTree}
use Rattle.query.specs.declared.item.Item.{Item}
use Rattle.query.specs.declared.item.Item.TheVariants as item

-- the mark of an item: GROUPING of the column that it is; any other item has GROUPING of no column, which is 0
abbrev pub mark_of : Item ℕ → Item ℕ
mark_of (item.Column c) = item.Grouping (c ∷ [])
mark_of i = item.Grouping []

-- the marks of the first items behind these
abbrev pub with_marks : ℕ → List (Item ℕ) → List (Item ℕ)
with_marks many items = take many items ++ (map mark_of (take many items) ++ drop many items)

-- the plan with the marks of its select list behind that; each has the heading of its item
abbrev pub marked : PlanTree → PlanTree
marked plan = record plan { items = with_marks (length plan.headings) plan.items; headings = plan.headings ++ plan.headings }
