-- Grouping sets as marks, one for each column of the table.
use Rattle.std.specs.Prelude.{ℕ, ◌+◌, ◌||◌, Bool, List, [], ◌∷◌, if◌then◌else◌, map}
use Rattle.cells.specs.declared.schema.Column.{Column}
use Rattle.query.specs.Sets.{Names, names_column}

-- for each column whether the set names it
abbrev pub marks : List Column → Names → List Bool
marks columns set = map (names_column set) columns

-- the union of two sets
abbrev pub joined : List Bool → List Bool → List Bool
joined [] bs = []
joined (a ∷ aes) [] = []
joined (a ∷ aes) (b ∷ bs) = (a || b) ∷ joined aes bs

-- the indexes, counted from k, that are marked
abbrev pub marked_from : ℕ → List Bool → List ℕ
marked_from k [] = []
marked_from k (b ∷ bs) = if b then k ∷ marked_from (k + 1) bs else marked_from (k + 1) bs
