-- Groups laid over a trie, one after another.
use Rattle.std.specs.Prelude.{◌≡◌, ℕ, ◌+◌, ◌≤◌, List, [], ◌∷◌, ◌++◌, length, Option, Some, None, IfSome, if◌then◌else◌}
use Rattle.aggs.specs.declared.acc.Acc.{Acc}
use Rattle.cells.specs.TupleOrder.{tuple_cmp, tuple_eq}
use Rattle.cells.specs.declared.cell.Cell.{Cell}
use Rattle.groups.specs.Accumulators.{AllFit, both, group}
use Rattle.groups.specs.Bags.{Group}
use Rattle.groups.specs.declared.aggregation.Aggregation.{Aggregation}
use Rattle.trie.specs.Digits.{digit_order}
use Rattle.trie.specs.Entries.{value_at}

module _ {H : Type 0} where
  -- what one group gives a tuple
  abbrev pub given : Group H → List Cell → Option (List (Acc H))
  given g tuple = if tuple_eq tuple g.0 then Some g.1 else None

  -- what groups give a tuple, one after another
  abbrev pub met_from : Option (List (Acc H)) → List (Group H) → List Cell → Option (List (Acc H))
  met_from start [] tuple = start
  met_from start (g ∷ groups) tuple = met_from (both start (given g tuple)) groups tuple

  -- the groups can be put together, one after another
  pub record CanMeet (aggregations : List Aggregation) (columns : List ℕ) (groups : List (Group H)) : Type 0 where
    pub fit : (before after : List (Group H)) (g : Group H) → groups ≡ before ++ g ∷ after →
        IfSome (met_from (group aggregations columns [] g.0) before g.0) (λ old. AllFit old g.1)

module _ {H : Type 0} (hash : List Cell → ℕ) where
  -- the accumulators of a tuple
  abbrev pub found : List (Group H) → List Cell → Option (List (Acc H))
  found entries tuple = value_at (digit_order hash tuple_cmp) entries tuple

  -- a group was laid over the entries
  pub record Lays (tuple : List Cell) (accs : List (Acc H)) (old new : List (Group H)) : Type 0 where
    pub gives : (t : List Cell) → found new t ≡ both (found old t) (given (tuple, accs) t)
    pub longer : length new ≤ length old + 1

  -- the groups, of which no two have one tuple, are the entries
  pub record AreLaidOnce (groups entries : List (Group H)) : Type 0 where
    pub gives : (t : List Cell) → found entries t ≡ met_from None groups t
    pub short : length entries ≤ length groups

  -- the groups were laid over the start
  pub record IsLaid (aggregations : List Aggregation) (columns : List ℕ) (groups entries : List (Group H)) : Type 0 where
    pub gives : (t : List Cell) → found entries t ≡ met_from (group aggregations columns [] t) groups t
    pub short : length entries ≤ length groups + 1
