-- The columns that a predicate names, and lists of values that are alike there.
use Rattle.std.specs.Prelude.{◌≡◌, ℕ, List, nat_eq}
use Rattle.std.specs.List.{AllByRecursion}
use Rattle.cells.specs.declared.total.Total.{Total}
use Rattle.query.specs.Different.{different}
use Rattle.query.specs.Names.{leaves_of}
use Rattle.query.specs.Trees.{PredicateTree}
use Rattle.query.specs.Truth.{value_at}
use Rattle.query.specs.declared.test.Test.{Test}

-- the indexes of the columns that a predicate names, each once, in the order in which the text first names them
abbrev pub columns_named : PredicateTree (Test ℕ) → List ℕ
columns_named p = different nat_eq (leaves_of p)

-- at each of these indexes both lists have the same value, where an index that a list does not have is as NULL
abbrev pub AgreeAt : List ℕ → List Total → List Total → Type 0
AgreeAt indexes xs ys = AllByRecursion (λ k. value_at xs k ≡ value_at ys k) indexes
