-- Pieces of parts: what they say of the rows of a part, and how they come of a list of parts.
use Rattle.std.specs.Prelude.{◌≡◌, ◌+◌, ◌*◌, ◌/◌, Bool, true, false, ℕ, List, [], ◌∷◌, Result, Ok, Err, if◌then◌else◌, length, map, max, min, nat_lt}
use Rattle.std.specs.Borrow.{Bor}
use Rattle.std.specs.List.{AllZip, flat_map}
use Rattle.cells.specs.Values.{RowValue, Table}
use Rattle.crew.specs.Limits.{seat_limit}
use Rattle.loader.specs.Cuts.{AreCut}
use Rattle.loader.specs.Parts.{FaultyRecord, Part, and_parts, rows_from, rows_of_part}
use Rattle.loader.specs.Records.{records_of}
use Rattle.loader.specs.declared.pieces.Piece.{Piece}

-- how many bytes the pieces of a list of so many are to have for so many workers: a quarter of a worker's share and a MiB at least. One
-- worker alone reads parts as they are
abbrev pub piece_size : ℕ → ℕ → ℕ
piece_size bytes workers = if nat_lt workers 2 then 18446744073709551615 else max (bytes / (min workers seat_limit * 4)) 1048576

-- the rows of a piece, or the number of its first faulty record, where a later piece has no header and its records are numbered
-- from 1 on
abbrev pub rows_of_piece : Table → Piece → Result (List RowValue) ℕ
rows_of_piece t piece = if piece.first then rows_of_part t piece.bytes.now else rows_from t 1 (records_of piece.bytes.now)

-- how many records of its part stand before a piece, where so many do before the end of the piece in front of it
abbrev pub records_before : Piece → ℕ → ℕ
records_before piece count = if piece.first then 0 else count

-- a record that is numbered behind so many others
abbrev pub numbered : ℕ → Result (List RowValue) ℕ → Result (List RowValue) ℕ
numbered before (Ok rows) = Ok rows
numbered before (Err number) = Err (before + number)

-- how many records are no faulty ones
abbrev pub counted : Result (List RowValue) ℕ → ℕ
counted (Ok rows) = length rows
counted (Err number) = 0

-- the rows that pieces put, in their order, or the first listed part that has a faulty record, where so many records of their part
-- stand before the pieces
abbrev pub rows_of_pieces : Table → ℕ → List Piece → Result (List RowValue) FaultyRecord
rows_of_pieces t count [] = Ok []
rows_of_pieces t count (piece ∷ later) =
    and_parts piece.part (numbered (records_before piece count) (rows_of_piece t piece))
    (rows_of_pieces t (records_before piece count + counted (rows_of_piece t piece)) later)

-- texts as the pieces of the part of this number at this place, of which the front one may be the first
abbrev pub labelled : ℕ → ℕ → Bool → List (Bor (List ℕ)) → List Piece
labelled place part first [] = []
labelled place part first (bytes ∷ later) = record { place = place; part = part; first = first; bytes = bytes } ∷ labelled place part false later

-- the part is cut into texts, and these are they
pub record IsInPieces (part : Part) (pieces : List Piece) : Type 0 where
  pub place : ℕ
  pub texts : List (Bor (List ℕ))
  pub are : pieces ≡ labelled place part.0 true texts
  pub cut : AreCut part.1 (map (λ text. text.now) texts)

-- the pieces of some parts, those of one behind those of another
pub record ArePieces (parts : List Part) (pieces : List Piece) : Type 0 where
  pub of_parts : List (List Piece)
  pub whole : flat_map (λ own. own) of_parts ≡ pieces
  pub each : AllZip IsInPieces parts of_parts
