-- Rows dealt out to lists.
use Rattle.std.specs.Prelude.{ℕ, List, Vec, map}
use Rattle.std.specs.declared.alloc.Global.{Global}

-- the indexes of rows in each list
abbrev pub indexes_of : List (Vec ℕ Global) → List (List ℕ)
indexes_of lists = map (λ list. list.items) lists
