-- The rows of a part, one record after another.
use Rattle.std.proofs.Common.{◌≡◌, ℕ, zero, suc, ◌+◌, ◌≤◌, Bool, true, false, Option, Some, None, List, [], ◌∷◌, ◌++◌, length, refl, ap, sym, subst, ◌∙◌, arith, append_assoc}
use Rattle.std.proofs.lemmas.List.{append-nil, length-append}
use Rattle.std.specs.List.{AllByRecursion}
use Rattle.std.specs.Prelude.{Result, Ok, Err, if◌then◌else◌}
use Rattle.cells.specs.Fitting.{IsRowOf}
use Rattle.cells.specs.Records.{row_of}
use Rattle.cells.specs.Tables.{keyed_rows}
use Rattle.cells.specs.Values.{RowValue, Table}
use Rattle.cells.specs.declared.cell.Cell.{Cell}
use Rattle.loader.specs.Loads.{AreCounted, Content, IsContent}
use Rattle.loader.specs.Parts.{and_rows, is_header, rows_behind_header, rows_from}
use Rattle.loader.specs.Records.{records_of}
use Rattle.loader.specs.Shards.{taken}
use Rattle.loader.specs.Shares.{AreSpread, Pairs, lists}
use Rattle.loader.specs.declared.part.Counted.{Counted}
use Rattle.loader.proofs.ShardLemmas.{taken_append}

-- rows that were read, before those of the records that are left
abbrev pub behind : List RowValue → Result (List RowValue) ℕ → Result (List RowValue) ℕ
behind rs (Ok more) = Ok (rs ++ more)
behind rs (Err number) = Err number

-- what is said of all records is said of those left, behind the rows that were read, of which those that are taken are spread over
-- shares, each beside its key
pub record Reached (hash_of : Cell → ℕ) (takes : Cell → Bool) (t : Table) (said : Result (List RowValue) ℕ) (number : ℕ) (left : List (List (List ℕ))) (shares : List Pairs) : Type 0 where
  pub rs : List RowValue
  pub counted : number ≡ length rs + 1
  pub spread : AreSpread hash_of (keyed_rows (taken takes rs)) shares
  pub fit : AllByRecursion (IsRowOf t) rs
  pub is : said ≡ behind rs (rows_from t number left)

pub behind_none : (o : Result (List RowValue) ℕ) → o ≡ behind [] o
behind_none (Ok rs) = refl
behind_none (Err number) = refl

-- no record was read
pub reached_first : (hash_of : Cell → ℕ) (takes : Cell → Bool) (t : Table) (records : List (List (List ℕ))) (shares : List Pairs) → AreSpread hash_of [] shares →
    Reached hash_of takes t (rows_from t 1 records) 1 records shares
reached_first hash_of takes t records shares none = record { rs = []; counted = refl; spread = none; fit = tt; is = behind_none (rows_from t 1 records) }

all_more : (t : Table) (rs : List RowValue) (row : RowValue) → AllByRecursion (IsRowOf t) rs → IsRowOf t row → AllByRecursion (IsRowOf t) (rs ++ row ∷ [])
all_more t [] row fit more = (more, tt)
all_more t (r ∷ rs) row fit more = (fit.0, all_more t rs row fit.1 more)

-- a record's row goes to those that were read
row_behind : (rs : List RowValue) (row : RowValue) (number : ℕ) (o : Result (List RowValue) ℕ) → behind rs (and_rows number (Some row) o) ≡ behind (rs ++ row ∷ []) o
row_behind rs row number (Ok more) = ap Ok (sym (append_assoc rs (row ∷ []) more))
row_behind rs row number (Err other) = refl

-- one record was read, which spells a row
pub reached_more : (hash_of : Cell → ℕ) (takes : Cell → Bool) (t : Table) (said : Result (List RowValue) ℕ) (number : ℕ) (old new : List (List (List ℕ))) (fields : List (List ℕ)) (row : RowValue) (shares all : List Pairs) →
    Reached hash_of takes t said number old shares → old ≡ fields ∷ new → row_of t fields ≡ Some row → IsRowOf t row →
    ((pairs : List (Cell × RowValue)) → AreSpread hash_of pairs shares → AreSpread hash_of (pairs ++ keyed_rows (taken takes (row ∷ []))) all) → Reached hash_of takes t said (number + 1) new all
reached_more hash_of takes t said number old new fields row shares all reached took spelt fits more = record {
  rs = reached.rs ++ row ∷ [];
  counted = omega (arith, reached.counted, length-append reached.rs (row ∷ []));
  spread = subst (λ pairs. AreSpread hash_of pairs all) (sym (taken_append takes reached.rs (row ∷ [])))
      (more (keyed_rows (taken takes reached.rs)) reached.spread);
  fit = all_more t reached.rs row reached.fit fits;
  is = reached.is ∙ ap (λ left. behind reached.rs (rows_from t number left)) took
      ∙ ap (λ o. behind reached.rs (and_rows number o (rows_from t (number + 1) new))) spelt
      ∙ row_behind reached.rs row number (rows_from t (number + 1) new);
}

-- all records were read
pub reached_end : (hash_of : Cell → ℕ) (takes : Cell → Bool) (t : Table) (said : Result (List RowValue) ℕ) (number : ℕ) (left : List (List (List ℕ))) (counted : Counted) →
    Reached hash_of takes t said number left (lists counted.rows.shares.items) → left ≡ [] → counted.count + 1 ≡ number → AreCounted hash_of takes t said counted
reached_end hash_of takes t said number left counted reached none many = record {
  read = record {
    rs = reached.rs;
    is = reached.is ∙ ap (λ l. behind reached.rs (rows_from t number l)) none ∙ ap Ok (append-nil reached.rs);
    spread = reached.spread;
    fit = reached.fit;
  };
  count = omega (arith, many, reached.counted);
}

-- ---- the header

-- what is read behind the header is read from the whole part
pub read_behind : (hash_of : Cell → ℕ) (takes : Cell → Bool) (t : Table) (header : List (List ℕ)) (later all : List (List (List ℕ))) (content : Content) → all ≡ header ∷ later →
    is_header t.columns header ≡ true → IsContent hash_of takes t (rows_from t 1 later) content → IsContent hash_of takes t (rows_behind_header t all) content
read_behind hash_of takes t header later all (Ok counted) took is rows = record {
  read = record {
    rs = rows.read.rs;
    is = ap (rows_behind_header t) took ∙ ap (λ b. if b then rows_from t 1 later else Err 0) is ∙ rows.read.is;
    spread = rows.read.spread;
    fit = rows.read.fit;
  };
  count = rows.count;
}
read_behind hash_of takes t header later all (Err number) took is read =
    ap (rows_behind_header t) took ∙ ap (λ b. if b then rows_from t 1 later else Err 0) is ∙ read
