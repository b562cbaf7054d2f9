-- What a keeper holds, and how its calls change it. These words name no list of code and no root.
use Rattle.std.specs.Prelude.{◌≡◌, ℕ, ◌+◌, ◌≤◌, List, [], ◌∷◌, ◌++◌, length, All, refl}
use Rattle.std.specs.Coded.{Coded, code_by, coded×, coded_ℕ, coded_list}
use Rattle.std.specs.FinMap as map
use Rattle.std.specs.List.Sorted.{IsPermutation}
use mathlib.Core.List.{IsPrefix}
use Rattle.atomic_table.specs.Seated.{TableId, table_id_coded}
use Rattle.cells.specs.Codes.{coded_cell, coded_row, coded_table}
use Rattle.cells.specs.Tables.{AreRowsOf, Rows, table as table_of}
use Rattle.cells.specs.Updates.{AreLeft}
use Rattle.cells.specs.Values.{RowValue, Table}
use Rattle.board.specs.Limits.{row_limit}

-- an edition: its number, its rows, and the schema of its table
pub record Edition : Type 0 where
  pub number : ℕ
  pub rows : Rows
  pub schema : Table

-- the rows of the editions that were published, in order
abbrev pub History : Type 0
History = List Rows

-- it begins with edition 0, which has no rows, so it is never empty
pub record IsHistory (history : History) : Type 0 where
  pub later : History
  pub is : history ≡ map.empty ∷ later

-- the rows of the last edition
abbrev pub last_rows : History → Rows
last_rows [] = map.empty
last_rows (x ∷ []) = x
last_rows (x ∷ y ∷ ys) = last_rows (y ∷ ys)

-- the last edition of the history has this number and these rows
pub record IsLastOf (history : History) (number : ℕ) (rows : Rows) : Type 0 where
  pub long : length history ≡ number + 1
  pub is : rows ≡ last_rows history

-- a keeper's draft with its limit, the last published edition, and all that were published, on which board
pub record Editions : Type 0 where
  pub drafted : Rows
  pub most : ℕ
  pub last : Edition
  pub all : History
  pub board : TableId

-- the editions of a draft, its limit, the last edition, and the editions of a board
abbrev pub editions_of : Rows → ℕ → Edition → History → TableId → Editions
editions_of drafted most last all board = record { drafted = drafted; most = most; last = last; all = all; board = board }

-- where there are no viewers there is no board
abbrev pub no_board : TableId
no_board = record { words = 0; slots = 0; views_name = 0; atom = 0; block = 0; offset = 0; slot_names = [] }

-- the rows that updates have left so far
abbrev pub draft : Editions → Rows
draft k = k.drafted

-- the most rows that the draft may have
abbrev pub limit : Editions → ℕ
limit k = k.most

-- the number of the last published edition
abbrev pub edition : Editions → ℕ
edition k = k.last.number

-- its rows
abbrev pub published : Editions → Rows
published k = k.last.rows

abbrev pub schema : Editions → Table
schema k = k.last.schema

-- the rows of all editions that were published, in order
abbrev pub history : Editions → History
history k = k.all

-- which board they were published on
abbrev pub board : Editions → TableId
board k = k.board

-- what is so of each edition: its rows are rows of the table, and no more than any draft may have
pub record IsEdition (table : Table) (rows : Rows) : Type 0 where
  pub fit : AreRowsOf table rows
  pub few : map.len rows ≤ row_limit

-- the rows are those of a list that updates leave
pub record AreListed (rows : Rows) : Type 0 where
  pub list : List RowValue
  pub left : AreLeft list
  pub is : rows ≡ table_of list

-- the list has each of the rows once, in some order, and so as many as there are
pub record IsListOf (rows : Rows) (list : List RowValue) : Type 0 where
  pub order : IsPermutation list (map.values rows)
  pub count : length list ≡ map.len rows

-- what is so of each keeper: its limit is in range, its draft keeps it and has rows of the table, and its last edition
-- is one and ends its history, which begins with edition 0
pub record IsKept (k : Editions) : Type 0 where
  pub some : 1 ≤ limit k
  pub most : limit k ≤ row_limit
  pub within : map.len (draft k) ≤ limit k
  pub drafted : AreRowsOf (schema k) (draft k)
  pub begun : IsHistory (history k)
  pub last : IsLastOf (history k) (edition k) (published k)
  pub published : IsEdition (schema k) (published k)

-- a keeper as it begins: draft and edition 0 have no rows
pub record Begins (most : ℕ) (table : Table) (k : Editions) : Type 0 where
  pub draft : draft k ≡ map.empty
  pub limit : limit k ≡ most
  pub edition : edition k ≡ 0
  pub published : published k ≡ map.empty
  pub schema : schema k ≡ table
  pub history : history k ≡ map.empty ∷ []

-- the draft has these rows now, and all else stays
pub record ChangesDraft (old new : Editions) (rows : Rows) : Type 0 where
  pub draft : draft new ≡ rows
  pub limit : limit new ≡ limit old
  pub edition : edition new ≡ edition old
  pub published : published new ≡ published old
  pub schema : schema new ≡ schema old
  pub history : history new ≡ history old
  pub board : board new ≡ board old

-- the draft is the next edition now, and all else stays, the draft too
pub record Publishes (old new : Editions) : Type 0 where
  pub edition : edition new ≡ edition old + 1
  pub published : published new ≡ draft old
  pub history : history new ≡ history old ++ draft old ∷ []
  pub draft : draft new ≡ draft old
  pub limit : limit new ≡ limit old
  pub schema : schema new ≡ schema old
  pub board : board new ≡ board old

-- what was told of a board: the history of its editions then
pub record Note : Type 0 where
  pub history : History
  pub board : TableId

-- what a viewer knows: the history that it has seen, those that it was told of since, the board, and the schema of its
-- table
pub record Known : Type 0 where
  pub history : History
  pub told : List History
  pub board : TableId
  pub schema : Table

-- it knows what the keeper knows
pub record KnowsAllOf (k : Editions) (note : Note) : Type 0 where
  pub history : note.history ≡ history k
  pub begun : IsHistory note.history
  pub board : note.board ≡ board k

-- a viewer as it begins: it has seen what the keeper knows, and was told nothing
pub record IsNewViewer (k : Editions) (viewer : Known) : Type 0 where
  pub history : viewer.history ≡ history k
  pub begun : IsHistory viewer.history
  pub told : viewer.told ≡ []
  pub board : viewer.board ≡ board k
  pub schema : viewer.schema ≡ schema k

-- the viewer was told one more history, and all else stays
pub record Learns (before : Known) (note : Note) (after : Known) : Type 0 where
  pub history : after.history ≡ before.history
  pub told : after.told ≡ before.told ++ note.history ∷ []
  pub board : after.board ≡ before.board
  pub schema : after.schema ≡ before.schema

-- these histories are beginnings of this one
abbrev pub BeginWithAll : List History → History → Type 0
BeginWithAll told history = All (λ t. IsPrefix t history) told

-- the viewer has seen a history that begins with all that it had seen, and with all that it was told of
pub record Looks (before after : Known) : Type 0 where
  pub seen : IsPrefix before.history after.history
  pub learnt : BeginWithAll before.told after.history
  pub begun : IsHistory after.history
  pub told : after.told ≡ []
  pub board : after.board ≡ before.board
  pub schema : after.schema ≡ before.schema

abbrev pub coded_rows : Coded Rows
coded_rows = map.code coded_cell coded_row

abbrev pub coded_edition : Coded Edition
coded_edition = code_by (ℕ × (Rows × Table)) (coded× coded_ℕ (coded× coded_rows coded_table))
    (λ e. (e.number, (e.rows, e.schema))) (λ p. record { number = p.0; rows = p.1.0; schema = p.1.1 }) (λ _. refl)

abbrev pub coded_history : Coded History
coded_history = coded_list coded_rows

abbrev pub coded_editions : Coded Editions
coded_editions = code_by (Rows × (ℕ × (Edition × (History × TableId)))) (coded× coded_rows (coded× coded_ℕ (coded× coded_edition (coded× coded_history table_id_coded))))
    (λ k. (k.drafted, (k.most, (k.last, (k.all, k.board))))) (λ p. record { drafted = p.0; most = p.1.0; last = p.1.1.0; all = p.1.1.1.0; board = p.1.1.1.1 }) (λ _. refl)

abbrev pub coded_note : Coded Note
coded_note = code_by (History × TableId) (coded× coded_history table_id_coded) (λ t. (t.history, t.board)) (λ p. record { history = p.0; board = p.1 }) (λ _. refl)

abbrev pub coded_known : Coded Known
coded_known = code_by (History × (List History × (TableId × Table))) (coded× coded_history (coded× (coded_list coded_history) (coded× table_id_coded coded_table)))
    (λ v. (v.history, (v.told, (v.board, v.schema)))) (λ p. record { history = p.0; told = p.1.0; board = p.1.1.0; schema = p.1.1.1 }) (λ _. refl)
