-- The rows of pieces of listed parts, one piece after another.
use Rattle.std.proofs.Common.{◌≡◌, ◌⊎◌, inl, inr, Bool, IfOk, ℕ, ◌+◌, List, [], ◌∷◌, ◌++◌, length, refl, ap, sym, subst, ◌∙◌, append_assoc}
use Rattle.std.proofs.lemmas.List.{append-nil}
use Rattle.std.specs.Prelude.{Result, Ok, Err, IfErr}
use Rattle.std.specs.List.{AllByRecursion, AllZip}
use Rattle.cells.specs.CellOrder.{cell_cmp}
use Rattle.cells.specs.Fitting.{IsRowOf}
use Rattle.cells.specs.Tables.{AreRowsOf, keyed_rows}
use Rattle.cells.specs.Values.{RowValue, Table}
use Rattle.cells.specs.declared.cell.Cell.{Cell}
use Rattle.trie.specs.Maps.{map_of}
use Rattle.loader.specs.Tries.{HoldsShares}
use Rattle.loader.specs.Listed.{AreRead}
use Rattle.loader.specs.Loads.{Held, HoldsPuts, IsContent, IsRead, LoadsTaken}
use Rattle.loader.specs.Parts.{FaultyRecord, and_parts}
use Rattle.loader.specs.Pieces.{counted, numbered, records_before, rows_of_piece, rows_of_pieces}
use Rattle.loader.specs.Shards.{taken}
use Rattle.loader.specs.Shares.{AreSpread, Pairs}
use Rattle.loader.specs.declared.fault.PartFault.{PartFault}
use Rattle.loader.specs.declared.fault.PartFault.TheVariants.{Bad, OutOfMemory, NoWorker}
use Rattle.loader.specs.declared.loading.Found.{Found}
use Rattle.loader.specs.declared.pieces.Piece.{Piece}
use Rattle.loader.proofs.ShardLemmas.{taken_append, taken_fit}

-- rows that were read, before those of the pieces that are left
abbrev pub before : List RowValue → Result (List RowValue) FaultyRecord → Result (List RowValue) FaultyRecord
before rs (Ok more) = Ok (rs ++ more)
before rs (Err fault) = Err fault

-- what is said of all pieces is said of those left, which stand behind so many records of their part, and behind the rows that were
-- read, of which those that are taken are spread over shares, each beside its key
pub record Listed (hash_of : Cell → ℕ) (takes : Cell → Bool) (t : Table) (said : Result (List RowValue) FaultyRecord) (count : ℕ) (left : List Piece) (shares : List Pairs) : Type 0 where
  pub rs : List RowValue
  pub spread : AreSpread hash_of (keyed_rows (taken takes rs)) shares
  pub fit : AllByRecursion (IsRowOf t) rs
  pub is : said ≡ before rs (rows_of_pieces t count left)

before_none : (o : Result (List RowValue) FaultyRecord) → o ≡ before [] o
before_none (Ok rs) = refl
before_none (Err fault) = refl

-- no piece was taken
pub listed_first : (hash_of : Cell → ℕ) (takes : Cell → Bool) (t : Table) (pieces : List Piece) (shares : List Pairs) → AreSpread hash_of [] shares → Listed hash_of takes t (rows_of_pieces t 0 pieces) 0 pieces shares
listed_first hash_of takes t pieces shares none = record { rs = []; spread = none; fit = tt; is = before_none (rows_of_pieces t 0 pieces) }

pub zip_more : {A B : Type 0} (R : A → B → Type 0) (xs : List A) (ys : List B) (x : A) (y : B) → AllZip R xs ys → R x y → AllZip R (xs ++ x ∷ []) (ys ++ y ∷ [])
zip_more R [] [] x y zip last = (last, tt)
zip_more R [] (v ∷ ys) x y zip last = absurd zip
zip_more R (u ∷ xs) [] x y zip last = absurd zip
zip_more R (u ∷ xs) (v ∷ ys) x y zip last = (zip.0, zip_more R xs ys x y zip.1 last)

-- a piece's rows go to those that were read
rows_before : (part : ℕ) (rs more : List RowValue) (o : Result (List RowValue) FaultyRecord) → before rs (and_parts part (Ok more) o) ≡ before (rs ++ more) o
rows_before part rs more (Ok behind) = ap Ok (sym (append_assoc rs more behind))
rows_before part rs more (Err fault) = refl

all_behind : (t : Table) (rs more : List RowValue) → AllByRecursion (IsRowOf t) rs → AllByRecursion (IsRowOf t) more → AllByRecursion (IsRowOf t) (rs ++ more)
all_behind t [] more fit last = last
all_behind t (row ∷ rs) more fit last = (fit.0, all_behind t rs more fit.1 last)

-- what is said where the first of the pieces left says this
said_by : (t : Table) (said : Result (List RowValue) FaultyRecord) (rs : List RowValue) (count : ℕ) (piece : Piece) (old new : List Piece) (own : Result (List RowValue) ℕ) →
    said ≡ before rs (rows_of_pieces t count old) → old ≡ piece ∷ new → rows_of_piece t piece ≡ own →
    said ≡ before rs (and_parts piece.part (numbered (records_before piece count) own) (rows_of_pieces t (records_before piece count + counted own) new))
said_by t said rs count piece old new own is took says = is ∙ ap (λ left. before rs (rows_of_pieces t count left)) took
    ∙ ap (λ o. before rs (and_parts piece.part (numbered (records_before piece count) o) (rows_of_pieces t (records_before piece count + counted o) new))) says

-- one piece was taken, none of whose records is faulty
pub listed_more : (hash_of : Cell → ℕ) (takes : Cell → Bool) (t : Table) (said : Result (List RowValue) FaultyRecord) (count next : ℕ) (piece : Piece) (old new : List Piece) (shares more all : List Pairs) →
    Listed hash_of takes t said count old shares → old ≡ piece ∷ new → (read : IsRead hash_of takes t (rows_of_piece t piece) more) → next ≡ records_before piece count + length read.rs →
    ((pairs behind : List (Cell × RowValue)) → AreSpread hash_of pairs shares → AreSpread hash_of behind more → AreSpread hash_of (pairs ++ behind) all) → Listed hash_of takes t said next new all
listed_more hash_of takes t said count next piece old new shares more all so_far took read counts joined = record {
  rs = so_far.rs ++ read.rs;
  spread = subst (λ pairs. AreSpread hash_of pairs all) (sym (taken_append takes so_far.rs read.rs))
      (joined (keyed_rows (taken takes so_far.rs)) (keyed_rows (taken takes read.rs)) so_far.spread read.spread);
  fit = all_behind t so_far.rs read.rs so_far.fit read.fit;
  is = said_by t said so_far.rs count piece old new (Ok read.rs) so_far.is took read.is
      ∙ rows_before piece.part so_far.rs read.rs (rows_of_pieces t (records_before piece count + length read.rs) new)
      ∙ ap (λ n. before (so_far.rs ++ read.rs) (rows_of_pieces t n new)) (sym counts);
}

-- all pieces were taken
pub listed_end : (hash_of : Cell → ℕ) (takes : Cell → Bool) (t : Table) (said : Result (List RowValue) FaultyRecord) (count : ℕ) (left : List Piece) (shares : List Pairs) → Listed hash_of takes t said count left shares →
    left ≡ [] → IsRead hash_of takes t said shares
listed_end hash_of takes t said count left shares all none = record {
  rs = all.rs;
  is = all.is ∙ ap (λ pieces. before all.rs (rows_of_pieces t count pieces)) none ∙ ap Ok (append-nil all.rs);
  spread = all.spread;
  fit = all.fit;
}

-- the trie of all rows that are taken
module _ (hash_of : Cell → ℕ) (takes : Cell → Bool) (t : Table) (said : Result (List RowValue) FaultyRecord) (shares : List Pairs) (read : IsRead hash_of takes t said shares) where
  holds_taken : (all : Held) → HoldsShares hash_of shares all → HoldsPuts t (taken takes read.rs) all
  holds_taken all held = held t (taken takes read.rs) read.spread (taken_fit takes t read.rs read.fit)

  pub all_loaded : (loaded : Result Held PartFault) → IfOk loaded (HoldsShares hash_of shares) → IfErr loaded (λ e. (e ≡ NoWorker) ⊎ (e ≡ OutOfMemory)) → LoadsTaken takes said loaded
  all_loaded (Ok all) held refused = record { rs = read.rs; is = read.is; map = (holds_taken all held).map }
  all_loaded (Err (Bad part entry)) held refused = absurd (elim refused [ inl e ↦ cc | inr e ↦ cc ])
  all_loaded (Err OutOfMemory) held refused = tt
  all_loaded (Err NoWorker) held refused = tt

  pub all_fit : (all : Held) → HoldsShares hash_of shares all → AreRowsOf t (map_of cell_cmp all)
  all_fit all held = (holds_taken all held).fit

-- ---- what was found, piece by piece

-- the first piece and what was found of it, and those behind them
pub read_next : (hash_of : Cell → ℕ) (takes : Cell → Bool) (t : Table) (old new : List Piece) (all rest : List Found) (piece : Piece) (found : Found) → AreRead hash_of takes t old all →
    old ≡ piece ∷ new → all ≡ found ∷ rest → IsContent hash_of takes t (rows_of_piece t piece) found.content × AreRead hash_of takes t new rest
read_next hash_of takes t old new all rest piece found read took_piece took_found =
    subst (λ fs. AreRead hash_of takes t (piece ∷ new) fs) took_found (subst (λ ps. AreRead hash_of takes t ps all) took_piece read)

-- where nothing more was found, no piece is left
pub none_left : (hash_of : Cell → ℕ) (takes : Cell → Bool) (t : Table) (pieces : List Piece) (all : List Found) → AreRead hash_of takes t pieces all → all ≡ [] → pieces ≡ []
none_left hash_of takes t [] all read none = refl
none_left hash_of takes t (piece ∷ pieces) [] read none = absurd read
none_left hash_of takes t (piece ∷ pieces) (found ∷ all) read none = absurd (cc)
