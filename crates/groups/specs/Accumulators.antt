-- The accumulators of a group: one for each aggregate of the select list, in its order.
use Rattle.std.specs.Prelude.{ℕ, Bool, true, false, not, ◌&&◌, List, [], ◌∷◌, map, Option, Some, None, if◌then◌else◌, ⊤}
use Rattle.std.specs.List.{filter_map}
use Rattle.aggs.specs.Accs.{AccsFit, acc_of, acc_together}
use Rattle.aggs.specs.declared.acc.Acc.{Acc}
use Rattle.aggs.specs.declared.acc.Kind.TheVariants as kind
use Rattle.cells.specs.Values.{RowValue}
use Rattle.cells.specs.declared.cell.Cell.{Cell}
use Rattle.groups.specs.Groups.{column_of, members}
use Rattle.groups.specs.declared.aggregation.Aggregation.{Aggregation}
use Rattle.query.specs.declared.item.Item.{Item}
use Rattle.query.specs.declared.item.Item.TheVariants as item

-- the aggregate that an item asks for: COUNT(*) may be stepped with any cell, and is with a row's first
abbrev pub aggregation_of : Item ℕ → Option Aggregation
aggregation_of (item.Column c) = None
aggregation_of (item.Grouping c) = None
aggregation_of item.CountRows = Some (record { kind = kind.CountRows; column = 0 })
aggregation_of (item.Count c) = Some (record { kind = kind.Count; column = c })
aggregation_of (item.CountDistinct c) = Some (record { kind = kind.CountDistinct; column = c })
aggregation_of (item.Sum c) = Some (record { kind = kind.Sum; column = c })
aggregation_of (item.Min c) = Some (record { kind = kind.Min; column = c })
aggregation_of (item.Max c) = Some (record { kind = kind.Max; column = c })

-- the aggregates of a select list, in order
abbrev pub aggregations_of : List (Item ℕ) → List Aggregation
aggregations_of items = filter_map aggregation_of items

-- the empty tuple of the empty set is there from the start
abbrev pub is_start : List ℕ → List Cell → Bool
is_start [] [] = true
is_start [] (x ∷ tuple) = false
is_start (c ∷ set) tuple = false

abbrev pub no_rows : List RowValue → Bool
no_rows [] = true
no_rows (r ∷ rows) = false

module _ {H : Type 0} where
  -- the accumulators of a list of rows
  abbrev pub accs_of : List Aggregation → List RowValue → List (Acc H)
  accs_of aggregations rows = map (λ a. acc_of a.kind (column_of a.column rows)) aggregations

  -- two lists of accumulators put together
  abbrev pub accs_together : List (Acc H) → List (Acc H) → List (Acc H)
  accs_together [] bs = []
  accs_together (a ∷ xs) [] = []
  accs_together (a ∷ xs) (b ∷ ys) = acc_together a b ∷ accs_together xs ys

  -- they have room for each other
  abbrev pub AllFit : List (Acc H) → List (Acc H) → Type 0
  AllFit [] bs = ⊤
  AllFit (a ∷ xs) [] = ⊤
  AllFit (a ∷ xs) (b ∷ ys) = AccsFit a b × AllFit xs ys

  -- the accumulators of a group's rows, where it has any or is there from the start
  abbrev pub group_or : List Aggregation → Bool → List RowValue → Option (List (Acc H))
  group_or aggregations start rows = if no_rows rows && not start then None else Some (accs_of aggregations rows)

  -- the accumulators of a tuple's group, where there is such a group
  abbrev pub group : List Aggregation → List ℕ → List RowValue → List Cell → Option (List (Acc H))
  group aggregations set rows tuple = group_or aggregations (is_start set tuple) (members set tuple rows)

  -- what two groups of one tuple give together
  abbrev pub both : Option (List (Acc H)) → Option (List (Acc H)) → Option (List (Acc H))
  both None b = b
  both (Some a) None = Some a
  both (Some a) (Some b) = Some (accs_together a b)
