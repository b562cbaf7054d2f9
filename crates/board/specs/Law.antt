-- The rule of the board, and what its steps tell. There is one history of editions; what each end of the board has seen is a
-- beginning of it. Each viewer has a box of two sides, of which one is shown, so that it need not wait for the keeper, who writes
-- the other.
use Rattle.std.specs.Prelude.{◌≡◌, ◌≢◌, ℕ, ◌+◌, ◌-◌, ◌*◌, ◌<◌, ◌≤◌, List, [], ◌∷◌, ◌++◌, length, All, slice_index, Option, Some, None}
use Rattle.std.specs.FinMap as map
use mathlib.Core.Option.{some}
use mathlib.Core.Option as maybe
use mathlib.Core.List.{IsPrefix}
use lib.ListN.{get_elem?}
use Rattle.atomic_table.specs.Table.{State, Me, Step}
use Rattle.cells.specs.Tables.{Rows}
use Rattle.cells.specs.Values.{Table}
use Rattle.board.specs.Editions.{BeginWithAll, Edition, History, IsHistory, IsLastOf}
use Rattle.board.specs.declared.law.Progress.{Progress}
use Rattle.board.specs.declared.law.Role.{Role}
use Rattle.board.specs.declared.law.Role.TheVariants.{Noted, Keeping, Outside, Inside}
use Rattle.board.specs.declared.law.View.{View}

-- what the rule sees of the slots: a value that is at home, or none
abbrev pub Homes : Type 0
Homes = List (maybe.Option (Option Edition))

-- a side of a box shows the last edition of so much of the history; before it is filled it shows nothing of it
abbrev pub Shows : Table → History → ℕ → Option Edition → Type 0
Shows table h shown None = shown ≡ 0
Shows table h shown (Some e) = (e.number + 1 ≡ shown) × (get_elem? h e.number ≡ some e.rows) × (e.schema ≡ table)

-- The box of viewer w shows so much of the history on its side `par`. `held` is 0, or 1 more than the side that the viewer has
pub record IsBox (table : Table) (h : History) (words : List ℕ) (homes : Homes) (hand w par held shown : ℕ) : Type 0 where
  pub bits : (par < 2) × (held < 3)
  pub idle : held ≡ 0 → slice_index words w ≡ par
  pub busy : held ≢ 0 → slice_index words w ≡ par + 2
  pub low : shown ≤ length h
  pub active : held ≢ par + 1 → (x : Option Edition) × (get_elem? homes (2 * w + par) ≡ some (some x)) × Shows table h shown x
  pub spare : held + par ≢ 2 → hand ≢ w → (x : Option Edition) × (get_elem? homes (2 * w + (1 - par)) ≡ some (some x))

-- the one history, how far the keeper is, which seat is its own, and of each box its viewer's seat, the side that it shows, what
-- its viewer has, and how much of the history it shows
pub record Board : Type 0 where
  pub history : History
  pub progress : Progress
  pub keeper : ℕ
  pub owner : ℕ → ℕ
  pub par : ℕ → ℕ
  pub held : ℕ → ℕ
  pub shown : ℕ → ℕ

-- the box of each viewer that was made shows the last edition of this history, or a later one
abbrev pub IsShown : Board → History → Type 0
IsShown b t = (w : ℕ) → 0 < w → w ≤ b.progress.made → length t ≤ b.shown w

-- what is so of a viewer's end, which has seen `seen` and takes the table for `mine`: the box w is its own, and shows as much
pub record HasBox (n : ℕ) (table : Table) (b : Board) (seat : ℕ) (mine : Table) (seen : History) (w hand : ℕ) : Type 0 where
  pub low : 0 < w
  pub high : w ≤ n
  pub made : w ≤ b.progress.made
  pub own : b.owner w ≡ seat
  pub held : b.held w ≡ hand
  pub few : length seen ≤ b.shown w
  pub filled : 0 < b.shown w
  pub schema : mine ≡ table

-- and of each end, by its role
module _ (n : ℕ) (table : Table) (b : Board) (seat : ℕ) (mine : Table) (seen : History) where
  abbrev pub Knows : Role → Type 0
  Knows Noted = IsShown b seen
  Knows (Keeping q) = (q ≡ b.progress) × (seat ≡ b.keeper) × (seen ≡ b.history) × (mine ≡ table)
  Knows (Outside w) = HasBox n table b seat mine seen w 0
  Knows (Inside w s) = HasBox n table b seat mine seen w (s + 1) × (s ≡ b.par w → length seen ≡ b.shown w)

-- what was seen and told are beginnings of the history
pub record Fits (n : ℕ) (table : Table) (b : Board) (seat : ℕ) (v : View) : Type 0 where
  pub role : Knows n table b seat v.schema v.seen v.role
  pub seen : IsPrefix v.seen b.history
  pub told : All (λ t. IsPrefix t b.history × IsShown b t) v.told

-- the words and slots are those of the board, whose history begins with edition 0
pub record IsLaid (n : ℕ) (table : Table) (b : Board) (words : List ℕ) (homes : Homes) : Type 0 where
  pub wide : length words ≡ n + 1
  pub deep : length homes ≡ 2 * n + 2
  pub begun : IsHistory b.history
  pub count : slice_index words 0 + 1 ≡ length b.history
  pub boxes : (w : ℕ) → 0 < w → w ≤ n → IsBox table b.history words homes b.progress.hand w (b.par w) (b.held w) (b.shown w)
  pub done : (w : ℕ) → 0 < w → w ≤ n → w ≤ b.progress.done → b.shown w ≡ length b.history
  pub side : (w : ℕ) → 0 < w → w ≤ n → b.progress.hand ≡ w → (b.progress.side ≡ b.par w) × (b.held w + b.par w ≢ 2)
  pub unmade : (w : ℕ) → b.progress.made < w → b.held w ≡ 0

-- there is one board, which all ends fit
pub record Kept (n : ℕ) (table : Table) (s : State (Option Edition) View) : Type 0 where
  pub board : Board
  pub laid : IsLaid n table board s.words s.homes
  pub each : (j : ℕ) (v : View) → get_elem? s.views j ≡ some v → Fits n table board j v

abbrev pub no_progress : Progress
no_progress = record { done = 0; hand = 0; side = 0; made = 0 }

abbrev pub progress_of : Role → Progress
progress_of (Keeping p) = p
progress_of _ = no_progress

-- the views of the keeper, of a viewer, and of what was told
abbrev pub keeping : Progress → Table → History → View
keeping p table seen = record { role = Keeping p; seen = seen; told = []; schema = table }

abbrev pub outside : ℕ → Table → History → View
outside w table seen = record { role = Outside w; seen = seen; told = []; schema = table }

abbrev pub inside : ℕ → ℕ → Table → History → View
inside w s table seen = record { role = Inside w s; seen = seen; told = []; schema = table }

abbrev pub nobody : View
nobody = record { role = Noted; seen = []; told = []; schema = record { name = []; columns = []; key = 0 } }

-- the keeper's view at the start
abbrev pub opening : Table → View
opening table = keeping no_progress table (map.empty ∷ [])

-- what is told: all that was seen
abbrev pub note : View → View
note v = record { role = Noted; seen = v.seen; told = []; schema = v.schema }

-- the view v after it was told what w has seen
abbrev pub informed : View → View → View
informed v w = record { role = v.role; seen = v.seen; told = v.told ++ w.seen ∷ []; schema = v.schema }

-- the keeper makes a viewer, which has seen as much
abbrev pub host : View → View
host v = keeping (record (progress_of v.role) { made = (progress_of v.role).made + 1 }) v.schema v.seen

abbrev pub guest : View → View
guest v = outside ((progress_of v.role).made + 1) v.schema v.seen

abbrev pub Sat : Type 0
Sat = Me (Option Edition) View

abbrev pub At : Type 0
At = Step (Option Edition)

-- the rows of the edition that a step announces
abbrev pub said_rows : maybe.Option (Option Edition) → Rows
said_rows (some (Some e)) = e.rows
said_rows _ = map.empty

-- the rows that were announced are added to all that was seen
abbrev pub Appended : At → Sat → ℕ → Sat → Type 0
Appended st m found m' = m' ≡ (keeping (record (progress_of m.0.role) { done = 0 }) m.0.schema (m.0.seen ++ said_rows st.said ∷ []), m.1)

-- where the viewer is outside, as while there is none, the keeper has the side of the box that is not shown
abbrev pub Grabbed : At → Sat → ℕ → Sat → Type 0
Grabbed st m found m' =
    ((progress_of m.0.role).made < st.word → found < 2)
    × (found < 2 → (x : Option Edition) × (m' ≡ (keeping (record (progress_of m.0.role) { hand = st.word; side = found }) m.0.schema m.0.seen, (2 * st.word + (1 - found), x) ∷ [])))
    × (2 ≤ found → m' ≡ m)

abbrev pub Flipped : At → Sat → ℕ → Sat → Type 0
Flipped st m found m' = m' ≡ (keeping (record (progress_of m.0.role) { hand = 0; done = st.word }) m.0.schema m.0.seen, [])

-- it is the last edition of the history, of that table
pub record IsEnd (seen : History) (table : Table) (e : Edition) : Type 0 where
  pub last : IsLastOf seen e.number e.rows
  pub schema : e.schema ≡ table

-- a history was seen, which begins with all that was seen and told before, and ends with the edition
pub record Saw (v : View) (seen : History) (e : Edition) : Type 0 where
  pub seen_before : IsPrefix v.seen seen
  pub told_before : BeginWithAll v.told seen
  pub last : IsEnd seen v.schema e
  pub begun : IsHistory seen

abbrev pub Entered : At → Sat → ℕ → Sat → Type 0
Entered st m found m' = (e : Edition) × (seen : History) × (found < 2) × (m' ≡ (inside st.word found m.0.schema seen, (2 * st.word + found, Some e) ∷ [])) × Saw m.0 seen e

abbrev pub Left : At → Sat → ℕ → Sat → Type 0
Left st m found m' = m' ≡ (outside st.word m.0.schema m.0.seen, [])
