-- What the pieces of parts say, one behind another, is what the parts say.
use Rattle.std.proofs.Common.{◌≡◌, ℕ, suc, ◌+◌, ◌<◌, Bool, true, false, Option, Some, None, List, [], ◌∷◌, ◌++◌, drop, get_or, length, map, refl, ap, sym, ◌∙◌, arith, append_assoc}
use Rattle.std.proofs.Math.Seq.{drop-cons}
use Rattle.std.proofs.lemmas.List.{append-nil, length-append}
use Rattle.std.specs.Borrow.{Bor}
use Rattle.std.specs.List.{AllZip, flat_map}
use Rattle.std.specs.Prelude.{Result, Ok, Err, if◌then◌else◌}
use Rattle.cells.specs.Records.{row_of}
use Rattle.cells.specs.Values.{RowValue, Table}
use Rattle.loader.specs.Cuts.{AreCut}
use Rattle.loader.specs.Parts.{FaultyRecord, Part, and_parts, and_rows, is_header, part_of, rows_behind_header, rows_from, rows_of_part, rows_of_parts}
use Rattle.loader.specs.Pieces.{ArePieces, IsInPieces, counted, labelled, numbered, rows_of_pieces}
use Rattle.loader.specs.Records.{records_of}
use Rattle.loader.specs.declared.pieces.Piece.{Piece}
use Rattle.loader.proofs.ListedLemmas.{zip_more}
use Rattle.loader.proofs.PartLemmas.{behind, behind_none}

abbrev Rows : Type 0
Rows = Result (List RowValue) ℕ

-- ---- rows of records that are two lists

-- the rows of some records, and then those of others
abbrev then_rows : Rows → Rows → Rows
then_rows (Ok rs) later = behind rs later
then_rows (Err number) later = Err number

and_then : (number : ℕ) (row : Option RowValue) (a b : Rows) → and_rows number row (then_rows a b) ≡ then_rows (and_rows number row a) b
and_then number None a b = refl
and_then number (Some row) (Err other) b = refl
and_then number (Some row) (Ok rs) (Ok more) = refl
and_then number (Some row) (Ok rs) (Err other) = refl

rows_from-append : (t : Table) (xs ys : List (List (List ℕ))) (number : ℕ) → rows_from t number (xs ++ ys) ≡ then_rows (rows_from t number xs) (rows_from t (number + length xs) ys)
rows_from-append t [] ys number = behind_none (rows_from t number ys) ∙ ap (λ n. behind [] (rows_from t n ys)) {x = number} {y = number + 0} (omega arith)
rows_from-append t (x ∷ xs) ys number =
    ap (and_rows number (row_of t x)) (rows_from-append t xs ys (number + 1))
    ∙ and_then number (row_of t x) (rows_from t (number + 1) xs) (rows_from t (number + 1 + length xs) ys)
    ∙ ap (λ n. then_rows (rows_from t number (x ∷ xs)) (rows_from t n ys)) {x = number + 1 + length xs} {y = number + length (x ∷ xs)} (omega arith)

and_numbered : (before number : ℕ) (row : Option RowValue) (a : Rows) → and_rows (before + number) row (numbered before a) ≡ numbered before (and_rows number row a)
and_numbered before number None a = refl
and_numbered before number (Some row) (Ok rs) = refl
and_numbered before number (Some row) (Err other) = refl

-- records that are numbered from a later number on
rows_from-numbered : (t : Table) (xs : List (List (List ℕ))) (before number : ℕ) → rows_from t (before + number) xs ≡ numbered before (rows_from t number xs)
rows_from-numbered t [] before number = refl
rows_from-numbered t (x ∷ xs) before number =
    ap (λ n. and_rows (before + number) (row_of t x) (rows_from t n xs)) {x = before + number + 1} {y = before + (number + 1)} (omega arith)
    ∙ ap (and_rows (before + number) (row_of t x)) (rows_from-numbered t xs before (number + 1))
    ∙ and_numbered before number (row_of t x) (rows_from t (number + 1) xs)

one_more : (number count : ℕ) (row : Option RowValue) (later : Rows) (rs : List RowValue) → ((more : List RowValue) → later ≡ Ok more → length more ≡ count) →
    and_rows number row later ≡ Ok rs → length rs ≡ count + 1
one_more number count None later rs many e = absurd (cc)
one_more number count (Some row) (Err other) rs many e = absurd (cc)
one_more number count (Some row) (Ok more) rs many e = let same : rs ≡ row ∷ more = cc in omega (arith, ap length same, many more refl)

-- each record that is not faulty is a row
rows_from-many : (t : Table) (xs : List (List (List ℕ))) (number : ℕ) (rs : List RowValue) → rows_from t number xs ≡ Ok rs → length rs ≡ length xs
rows_from-many t [] number rs e = let same : rs ≡ [] = cc in ap length same
rows_from-many t (x ∷ xs) number rs e =
    let more = one_more number (length xs) (row_of t x) (rows_from t (number + 1) xs) rs (rows_from-many t xs (number + 1)) e in omega (arith, more)

-- ---- rows of a part, piece by piece

module _ (part : ℕ) (rest : Result (List RowValue) FaultyRecord) where
  and_parts_none : rest ≡ and_parts part (Ok []) rest
  and_parts_none = by_rest rest
    where
      by_rest : (o : Result (List RowValue) FaultyRecord) → o ≡ and_parts part (Ok []) o
      by_rest (Ok rs) = refl
      by_rest (Err fault) = refl

  joined_rows : (rs more : List RowValue) (o : Result (List RowValue) FaultyRecord) → and_parts part (Ok rs) (and_parts part (Ok more) o) ≡ and_parts part (Ok (rs ++ more)) o
  joined_rows rs more (Ok last) = ap Ok (sym (append_assoc rs more last))
  joined_rows rs more (Err fault) = refl

  -- two pieces are as one
  joined : (count many : ℕ) (a b : Rows) → ((rs : List RowValue) → a ≡ Ok rs → length rs ≡ many) →
      and_parts part (numbered count a) (and_parts part (numbered (count + counted a) b) rest) ≡ and_parts part (numbered count (then_rows a (numbered many b))) rest
  joined count many (Err number) b long = refl
  joined count many (Ok rs) (Ok more) long = joined_rows rs more rest
  joined count many (Ok rs) (Err number) long =
      ap (λ n. Err (record { part = part; entry = n })) {x = count + length rs + number} {y = count + (many + number)} (omega (arith, long rs refl))

  numbered_none : (a : Rows) → numbered 0 a ≡ a
  numbered_none (Ok rs) = refl
  numbered_none (Err number) = ap Err {x = 0 + number} {y = number} (omega arith)

  -- the first piece, which has the header, and all records behind it
  headed : (t : Table) (first later : List (List (List ℕ))) → (first ≡ [] → later ≡ []) →
      and_parts part (numbered 0 (rows_behind_header t first)) (and_parts part (numbered (0 + counted (rows_behind_header t first)) (rows_from t 1 later)) rest)
      ≡ and_parts part (rows_behind_header t (first ++ later)) rest
  headed t [] later none = ap (λ records. and_parts part (rows_behind_header t records) rest) (sym (none refl))
  headed t (header ∷ own) later none = by_header (is_header t.columns header)
    where
      by_header : (is : Bool) →
          and_parts part (numbered 0 (if is then rows_from t 1 own else Err 0)) (and_parts part (numbered (0 + counted (if is then rows_from t 1 own else Err 0)) (rows_from t 1 later)) rest)
          ≡ and_parts part (if is then rows_from t 1 (own ++ later) else Err 0) rest
      by_header false = refl
      by_header true =
          joined 0 (length own) (rows_from t 1 own) (rows_from t 1 later) (rows_from-many t own 1)
          ∙ ap (λ o. and_parts part (numbered 0 (then_rows (rows_from t 1 own) o)) rest)
          (sym (rows_from-numbered t later (length own) 1) ∙ ap (λ n. rows_from t n later) {x = length own + 1} {y = 1 + length own} (omega arith))
          ∙ ap (λ o. and_parts part (numbered 0 o) rest) (sym (rows_from-append t own later 1))
          ∙ ap (λ o. and_parts part o rest) (numbered_none (rows_from t 1 (own ++ later)))

  -- what pieces say that are not the first of a part, before pieces of other parts
  module _ (t : Table) (place : ℕ) (behind_them : List Piece) (say : (count : ℕ) → rows_of_pieces t count behind_them ≡ rest) where
    later_pieces : (texts : List (Bor (List ℕ))) (count : ℕ) →
        rows_of_pieces t count (labelled place part false texts ++ behind_them) ≡ and_parts part (numbered count (rows_from t 1 (flat_map records_of (map (λ text. text.now) texts)))) rest
    later_pieces [] count = say count ∙ and_parts_none
    later_pieces (text ∷ texts) count =
        let own = records_of text.now in
        let later = flat_map records_of (map (λ text. text.now) texts) in
        ap (and_parts part (numbered count (rows_from t 1 own))) (later_pieces texts (count + counted (rows_from t 1 own)))
        ∙ joined count (length own) (rows_from t 1 own) (rows_from t 1 later) (rows_from-many t own 1)
        ∙ ap (λ o. and_parts part (numbered count (then_rows (rows_from t 1 own) o)) rest)
        (sym (rows_from-numbered t later (length own) 1) ∙ ap (λ n. rows_from t n later) {x = length own + 1} {y = 1 + length own} (omega arith))
        ∙ ap (λ o. and_parts part (numbered count o) rest) (sym (rows_from-append t own later 1))

    all_pieces : (texts : List (Bor (List ℕ))) (bytes : List ℕ) (count : ℕ) → AreCut bytes (map (λ text. text.now) texts) →
        rows_of_pieces t count (labelled place part true texts ++ behind_them) ≡ and_parts part (rows_of_part t bytes) rest
    all_pieces [] bytes count cut = absurd cut
    all_pieces (text ∷ texts) bytes count cut =
        let own = records_of text.now in
        let later = flat_map records_of (map (λ text. text.now) texts) in
        ap (and_parts part (numbered 0 (rows_behind_header t own))) (later_pieces texts (0 + counted (rows_behind_header t own)))
        ∙ headed t own later (λ none. ap (flat_map records_of) (cut.header none))
        ∙ ap (λ records. and_parts part (rows_behind_header t records) rest) (sym cut.records)

-- the pieces of all parts
rows_of_all : (t : Table) (parts : List Part) (of_parts : List (List Piece)) → AllZip IsInPieces parts of_parts → (count : ℕ) → rows_of_pieces t count (flat_map (λ pieces. pieces) of_parts) ≡ rows_of_parts t parts
rows_of_all t [] [] zip count = refl
rows_of_all t [] (own ∷ of_parts) zip count = absurd zip
rows_of_all t (part ∷ parts) [] zip count = absurd zip
rows_of_all t (part ∷ parts) (own ∷ of_parts) zip count =
    ap (λ pieces. rows_of_pieces t count (pieces ++ flat_map (λ pieces. pieces) of_parts)) zip.0.are
    ∙ all_pieces part.0 (rows_of_parts t parts) t zip.0.place (flat_map (λ pieces. pieces) of_parts) (rows_of_all t parts of_parts zip.1) zip.0.texts part.1 count zip.0.cut

pub pieces_say : (t : Table) (parts : List Part) (pieces : List Piece) → ArePieces parts pieces → rows_of_pieces t 0 pieces ≡ rows_of_parts t parts
pieces_say t parts pieces are = ap (rows_of_pieces t 0) (sym are.whole) ∙ rows_of_all t parts are.of_parts are.each 0

-- ---- pieces that are made

-- so many texts are as many pieces
pub labelled-many : (texts : List (Bor (List ℕ))) (place part : ℕ) (first : Bool) → length (labelled place part first texts) ≡ length texts
labelled-many [] place part first = refl
labelled-many (text ∷ texts) place part first = omega (arith, labelled-many texts place part false)

-- one piece more
pub labelled-more : (place part : ℕ) (first : Bool) (pieces all : List Piece) (texts left : List (Bor (List ℕ))) (text : Bor (List ℕ)) → texts ≡ text ∷ left →
    pieces ++ labelled place part first texts ≡ all → (pieces ++ record { place = place; part = part; first = first; bytes = text } ∷ []) ++ labelled place part false left ≡ all
labelled-more place part first pieces all texts left text took so_far =
    append_assoc pieces (record { place = place; part = part; first = first; bytes = text } ∷ []) (labelled place part false left)
    ∙ ap (λ more. pieces ++ labelled place part first more) (sym took) ∙ so_far

pub labelled-all : (place part : ℕ) (first : Bool) (pieces all : List Piece) (texts : List (Bor (List ℕ))) → texts ≡ [] → pieces ++ labelled place part first texts ≡ all → pieces ≡ all
labelled-all place part first pieces all texts none so_far =
    sym (append-nil pieces) ∙ ap (λ more. pieces ++ labelled place part first more) (sym none) ∙ so_far

-- some parts are in pieces, and these are left
pub record CutSoFar (parts left : List Part) (pieces : List Piece) : Type 0 where
  pub done : List Part
  pub all : done ++ left ≡ parts
  pub are : ArePieces done pieces

all-more : (lists : List (List Piece)) (own : List Piece) → flat_map (λ pieces. pieces) (lists ++ own ∷ []) ≡ flat_map (λ pieces. pieces) lists ++ own
all-more [] own = append-nil own
all-more (first ∷ lists) own = ap (λ more. first ++ more) (all-more lists own) ∙ sym (append_assoc first (flat_map (λ pieces. pieces) lists) own)

-- one part more
pub cut_more : (parts old new : List Part) (pieces all : List Piece) (part : Part) (own : List Piece) → CutSoFar parts old pieces → old ≡ part ∷ new → IsInPieces part own → all ≡ pieces ++ own →
    CutSoFar parts new all
cut_more parts old new pieces all part own so_far took is joined_to = record {
  done = so_far.done ++ part ∷ [];
  all = append_assoc so_far.done (part ∷ []) new ∙ ap (λ left. so_far.done ++ left) (sym took) ∙ so_far.all;
  are = record {
    of_parts = so_far.are.of_parts ++ own ∷ [];
    whole = all-more so_far.are.of_parts own ∙ ap (λ front. front ++ own) so_far.are.whole ∙ sym joined_to;
    each = zip_more IsInPieces so_far.done so_far.are.of_parts part own so_far.are.each is;
  };
}

-- the part at a place, and those behind it
taken : (parts : List (ℕ × Bor (List ℕ))) (place : ℕ) (other : ℕ × Bor (List ℕ)) → place < length parts →
    map part_of (drop place parts) ≡ part_of (get_or parts place other) ∷ map part_of (drop (place + 1) parts)
taken parts place other within =
    ap (map part_of) (drop-cons parts place other within)
    ∙ ap (λ n. part_of (get_or parts place other) ∷ map part_of (drop n parts)) {x = suc place} {y = place + 1} (omega arith)

-- the part at a place was cut
pub cut_next : (parts : List (ℕ × Bor (List ℕ))) (place : ℕ) (other : ℕ × Bor (List ℕ)) (pieces all : List Piece) (texts : List (Bor (List ℕ))) → place < length parts →
    CutSoFar (map part_of parts) (map part_of (drop place parts)) pieces → AreCut (get_or parts place other).1.now (map (λ text. text.now) texts) →
    all ≡ pieces ++ labelled place (get_or parts place other).0 true texts → CutSoFar (map part_of parts) (map part_of (drop (place + 1) parts)) all
cut_next parts place other pieces all texts within so_far cut joined_to =
    cut_more (map part_of parts) (map part_of (drop place parts)) (map part_of (drop (place + 1) parts)) pieces all (part_of (get_or parts place other))
    (labelled place (get_or parts place other).0 true texts) so_far (taken parts place other within) (record { place = place; texts = texts; are = refl; cut = cut }) joined_to

-- so many pieces are there then
pub many_next : (pieces all : List Piece) (place part : ℕ) (texts : List (Bor (List ℕ))) → all ≡ pieces ++ labelled place part true texts → length all ≡ length pieces + length texts
many_next pieces all place part texts joined_to =
    ap length joined_to ∙ length-append pieces (labelled place part true texts) ∙ ap (λ n. length pieces + n) (labelled-many texts place part true)
