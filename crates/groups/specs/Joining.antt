-- Partial results put together, set by set.
use Rattle.std.specs.Prelude.{◌≡◌, ℕ, ◌+◌, ◌≤◌, List, [], ◌∷◌, length}
use Rattle.aggs.specs.Room.{cell_limit}
use Rattle.aggs.specs.declared.acc.Acc.{Acc}
use Rattle.cells.specs.TupleOrder.{tuple_cmp}
use Rattle.cells.specs.Values.{RowValue}
use Rattle.cells.specs.declared.cell.Cell.{Cell}
use Rattle.groups.specs.Accumulators.{accs_together}
use Rattle.groups.specs.Partials.{StandsAt}
use Rattle.groups.specs.declared.aggregation.Aggregation.{Aggregation}
use Rattle.trie.specs.Digits.{digit_order}
use Rattle.trie.specs.Merging.{IsMerged}

module _ {H : Type 0} (hash : List Cell → ℕ) where
  -- each tuple has its accumulators of both, put together
  abbrev pub Joins : List (List Cell × List (Acc H)) → List (List Cell × List (Acc H)) → List (List Cell × List (Acc H)) → Type 0
  Joins first second new = IsMerged (digit_order hash tuple_cmp) accs_together first second new

  -- trie by trie, as far as both go
  abbrev pub JoinsEach : List (List (List Cell × List (Acc H))) → List (List (List Cell × List (Acc H))) → List (List (List Cell × List (Acc H))) → Type 0
  JoinsEach [] seconds new = new ≡ []
  JoinsEach (x ∷ firsts) [] new = new ≡ []
  JoinsEach (x ∷ firsts) (y ∷ seconds) [] = ⊥
  JoinsEach (x ∷ firsts) (y ∷ seconds) (n ∷ new) = Joins x y n × JoinsEach firsts seconds new

  -- the groups of two lists of rows, few enough together, in one grouping set
  pub record MeetsAt (first second : List (List Cell × List (Acc H))) : Type 0 where
    pub aggregations : List Aggregation
    pub set : List ℕ
    pub xs : List RowValue
    pub ys : List RowValue
    pub few : length xs + length ys ≤ cell_limit
    pub of_first : StandsAt hash aggregations set xs first
    pub of_second : StandsAt hash aggregations set ys second
