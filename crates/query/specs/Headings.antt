-- The text that a report's header has of an item: the item as the query spells it, with a blank behind each comma and no other.
use Rattle.std.specs.Prelude.{ℕ, List, [], ◌∷◌, ◌++◌, codes}
use Rattle.query.specs.declared.item.Item.{Item}
use Rattle.query.specs.declared.item.Item.TheVariants as item

-- NAME(COLUMN)
abbrev pub call : List ℕ → List ℕ → List ℕ
call name column = name ++ codes "(" ++ column ++ codes ")"

-- the names with a comma and a blank between them
abbrev pub listed : List (List ℕ) → List ℕ
listed [] = []
listed (n ∷ []) = n
listed (n ∷ m ∷ ns) = n ++ codes ", " ++ listed (m ∷ ns)

abbrev pub heading : Item (List ℕ) → List ℕ
heading (item.Column n) = n
heading (item.Grouping ns) = call (codes "GROUPING") (listed ns)
heading item.CountRows = codes "COUNT(*)"
heading (item.Count n) = call (codes "COUNT") n
heading (item.CountDistinct n) = call (codes "COUNT") (codes "DISTINCT " ++ n)
heading (item.Sum n) = call (codes "SUM") n
heading (item.Min n) = call (codes "MIN") n
heading (item.Max n) = call (codes "MAX") n
