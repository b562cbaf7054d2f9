-- The records of a part, one after another.
use Rattle.std.proofs.Common.{◌≡◌, ◌==◌, ◌≤◌, ℕ, zero, suc, ◌+◌, Bool, true, false, List, [], ◌∷◌, ◌++◌, length, map, refl, ap, sym, ◌∙◌, arith, append_assoc, eq-eqb}
use Rattle.std.proofs.lemmas.List.{append-nil, length-append, length-map}
use Rattle.std.proofs.lemmas.List.Concat.{flat_map-cons}
use Rattle.std.proofs.lemmas.Grind.{flat_map-append}
use Rattle.std.specs.Prelude.{Option, Some, None, Ok, Err, if◌then◌else◌}
use Rattle.csv.specs.Machine.{Read, next_record}
use Rattle.csv.specs.Reading.{is_bom, records_from as csv_records_from, records_next, strip_bom}
use Rattle.csv.specs.Records.{trimmed}
use Rattle.csv.specs.Writing.{default_writer, row_text}
use Rattle.csv.specs.declared.parser.State.{State}
use Rattle.csv.specs.declared.parser.State.TheVariants as st
use Rattle.records.specs.Records.{Fields, config_of, records_of}
use Rattle.prepare.specs.Parts.{IsFault, IsPart, IsTextAfter, Made, and_first, as_read, headed, part_of, places_of, record_of, records_from, text_of, under_header, words_of}
use Rattle.prepare.specs.declared.choice.Choice.{Choice}
use Rattle.prepare.specs.declared.fault.PrepareFault.{PrepareFault}
use Rattle.prepare.specs.declared.part.MadePart.{MadePart}
use Rattle.prepare.specs.declared.fault.PrepareFault.TheVariants.{NoHeader, NoColumn, Quotes, TwoColumns, Uneven, OutOfMemory}

-- records that were made, before those of the records that are left
abbrev pub before : {A : Type 0} → List A → Made A → Made A
before xs (Ok ys) = Ok (xs ++ ys)
before xs (Err fault) = Err fault

-- what is said of all records is said of those left, after the records that were written after a text
pub record Reached (choice : Choice) (places : List ℕ) (width : ℕ) (start : List ℕ) (said : Made Fields) (number : ℕ) (left : List Fields) (text : List ℕ) : Type 0 where
  pub rows : List Fields
  pub written : text ≡ start ++ text_of rows
  pub is : said ≡ before rows (records_from choice places width number left)
  pub counted : length rows + 1 ≡ number

before_more : {A : Type 0} (xs : List A) (x : A) (later : Made A) → before xs (and_first x later) ≡ before (xs ++ x ∷ []) later
before_more xs x (Ok ys) = ap Ok (sym (append_assoc xs (x ∷ []) ys))
before_more xs x (Err fault) = refl

-- ---- the text

text_more : (rows : List Fields) (row : Fields) → text_of (rows ++ row ∷ []) ≡ text_of rows ++ row_text default_writer row
text_more rows row =
    flat_map-append (row_text default_writer) rows (row ∷ [])
    ∙ ap (λ last. text_of rows ++ last) (flat_map-cons (row_text default_writer) row [] ∙ append-nil (row_text default_writer row))

module _ (choice : Choice) (places : List ℕ) (width : ℕ) (start : List ℕ) (said : Made Fields) (number : ℕ) (old new : List Fields) (text : List ℕ) (fields : Fields)
    (reached : Reached choice places width start said number old text) (took : old ≡ fields ∷ new) where
  by_length : (b : Bool) → (length fields == width) ≡ b → said ≡ before reached.rows
      (if b then and_first (record_of choice places number fields) (records_from choice places width (number + 1) new) else Err (Uneven number (length fields) width))
  by_length b is = reached.is ∙ ap (λ left. before reached.rows (records_from choice places width number left)) took
      ∙ ap (λ (test : Bool). before reached.rows (if test then and_first (record_of choice places number fields) (records_from choice places width (number + 1) new)
      else Err (Uneven number (length fields) width))) is

  -- one record was written
  pub reached_more : (all : List ℕ) → length fields ≡ width → all ≡ text ++ row_text default_writer (record_of choice places number fields)
      → Reached choice places width start said (number + 1) new all
  reached_more all even added = record {
    rows = reached.rows ++ record_of choice places number fields ∷ [];
    written = added ∙ ap (λ front. front ++ row_text default_writer (record_of choice places number fields)) reached.written
        ∙ append_assoc start (text_of reached.rows) (row_text default_writer (record_of choice places number fields))
        ∙ ap (λ rest. start ++ rest) (sym (text_more reached.rows (record_of choice places number fields)));
    is = by_length true (eq-eqb (length fields) width even) ∙ before_more reached.rows (record_of choice places number fields) (records_from choice places width (number + 1) new);
    counted = omega (arith, length-append reached.rows (record_of choice places number fields ∷ []), reached.counted);
  }

-- ---- the whole file

-- white space is no field
pub read_length : (choice : Choice) (fields : Fields) → length (as_read choice fields) ≡ length fields
read_length choice fields = go choice.trims where
  go : (b : Bool) → length (if b then map trimmed fields else fields) ≡ length fields
  go true = length-map fields trimmed
  go false = refl

module _ (choice : Choice) (all later : List Fields) (header : Fields) (took : all ≡ header ∷ later) where
  module _ (places : List ℕ) (placed : places_of choice.columns (as_read choice header) ≡ Ok places) where
    -- its header was written
    under : part_of choice all ≡ and_first (headed choice.number (words_of choice.columns (as_read choice header))) (records_from choice places (length header) 1 later)
    under = ap (part_of choice) took ∙ ap (under_header choice header later) placed

    pub part_text : (start : List ℕ) (part : MadePart) → start ≡ row_text default_writer (headed choice.number (words_of choice.columns (as_read choice header)))
        → IsTextAfter start (records_from choice places (length header) 1 later) part → IsPart (part_of choice all) part
    part_text start part first read = record {
      rows = headed choice.number (words_of choice.columns (as_read choice header)) ∷ read.rows;
      is = under ∙ ap (and_first (headed choice.number (words_of choice.columns (as_read choice header)))) read.is;
      written = read.written ∙ ap (λ front. front ++ text_of read.rows) first
          ∙ sym (flat_map-cons (row_text default_writer) (headed choice.number (words_of choice.columns (as_read choice header))) read.rows);
      counted = omega (arith, read.counted);
    }

    pub part_fault : (fault : PrepareFault) → IsFault (records_from choice places (length header) 1 later) fault → IsFault (part_of choice all) fault
    part_fault NoHeader told = under ∙ ap (and_first (headed choice.number (words_of choice.columns (as_read choice header)))) told
    part_fault (NoColumn place) told = under ∙ ap (and_first (headed choice.number (words_of choice.columns (as_read choice header)))) told
    part_fault (TwoColumns place first second) told = under ∙ ap (and_first (headed choice.number (words_of choice.columns (as_read choice header)))) told
    part_fault (Uneven number fields width) told = under ∙ ap (and_first (headed choice.number (words_of choice.columns (as_read choice header)))) told
    part_fault (Quotes fault line) told = told
    part_fault OutOfMemory told = tt
