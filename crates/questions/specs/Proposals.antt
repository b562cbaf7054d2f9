-- The table that is proposed for files, and the parts that are made of them.
use Rattle.std.specs.Prelude.{◌≡◌, ◌+◌, ◌<◌, ◌≤◌, ◌++◌, Bool, ℕ, List, [], ◌∷◌, Option, Some, None, Vec, Ok, codes, false, filter, length, map, suc, take, true, unwrap_or, zero}
use Rattle.std.specs.List.{slice_index_or}
use Rattle.std.specs.declared.alloc.Global.{Global}
use Rattle.cells.specs.Limits.{column_limit}
use Rattle.cells.specs.Reading.{tokens_of}
use Rattle.cells.specs.declared.schema.ColumnType.{ColumnType}
use Rattle.records.specs.Records.{Fields, records_of}
use Rattle.prepare.specs.Listed.{by_name, header_in, is_named, naming_of, words_in}
use Rattle.prepare.specs.Parts.{HasRightQuotes, headed, part_of, text_of}
use Rattle.prepare.specs.Proposals.{AreTypes, HasNoKey, IsFirstKey, rows_of}
use Rattle.prepare.specs.declared.choice.Choice.{Choice}
use Rattle.prepare.specs.declared.choice.Chosen.{Chosen}
use Rattle.questions.specs.Options.{is_one_of}
use Rattle.questions.specs.Questions.{table_line, table_name}
use Rattle.questions.specs.declared.proposal.Proposal.{Proposal}
use Rattle.questions.specs.declared.proposal.Typed.{Typed}
use Rattle.questions.specs.declared.question.Wanted.{Wanted}

-- ---- parts

-- what is chosen, where so many records were counted before
abbrev pub counting_from : Choice → ℕ → Choice
counting_from choice counted = record choice { counted = counted }

-- the part that is made of a file, whose quotes are right where they are looked at, and how many records it has
pub record IsPartOf (choice : Choice) (file part : List ℕ) (count : ℕ) : Type 0 where
  pub quotes : HasRightQuotes choice file
  pub rows : List Fields
  pub is : part_of choice (records_of choice.delimiter file) ≡ Ok rows
  pub written : part ≡ text_of rows
  pub counted : count + 1 ≡ length rows

-- the parts that are made of files, whose records are counted through all of them
abbrev pub AreParts : Choice → ℕ → List (List ℕ) → List (List ℕ) → ℕ → Type 0
AreParts choice before [] [] all = before ≡ all
AreParts choice before [] (part ∷ parts) all = ⊥
AreParts choice before (file ∷ files) [] all = ⊥
AreParts choice before (file ∷ files) (part ∷ parts) all =
    (count : ℕ) × IsPartOf (counting_from choice before) file part count × AreParts choice (before + count) files parts all

-- the parts of the first so many files; of what was chosen only the count is another one now
pub record MadeOf (choice : Choice) (files : List (Vec ℕ Global)) (at : ℕ) (parts : List (Vec ℕ Global)) (now : Choice) : Type 0 where
  pub made : AreParts choice 0 (map (λ f. f.items) (take at files)) (map (λ p. p.items) parts) now.counted
  pub same : now ≡ counting_from choice now.counted

-- ---- columns

-- the columns that are chosen
abbrev pub chosen_in : Option (Vec Chosen Global) → List Chosen
chosen_in None = []
chosen_in (Some columns) = columns.items

-- the names that the columns get
abbrev pub names_of : Choice → Fields
names_of choice = headed choice.number (words_in (chosen_in choice.columns))

-- the parts of these files, and the types of their columns
pub record AreTyped (choice : Choice) (files parts : List (List ℕ)) (types : List ColumnType) : Type 0 where
  pub records : ℕ
  pub made : AreParts choice 0 files parts records
  pub are : AreTypes (rows_of parts) (length (names_of choice)) types

pub record IsTyped (choice : Choice) (files : List (List ℕ)) (t : Typed) : Type 0 where
  pub names : t.names.items ≡ names_of choice
  pub typed : AreTyped choice files (map (λ part. part.items) t.parts.items) t.types.items

-- the table is of these parts, and has this key
pub record IsOf (t : Typed) (place : ℕ) (p : Proposal) : Type 0 where
  pub names : map (λ c. c.name) p.columns.items ≡ t.names.items
  pub types : map (λ c. c.kind) p.columns.items ≡ t.types.items
  pub parts : p.parts.items ≡ t.parts.items
  pub key : p.key ≡ place

-- the table has the names and the types of what is chosen
pub record IsTable (choice : Choice) (files : List (List ℕ)) (p : Proposal) : Type 0 where
  pub names : map (λ c. c.name) p.columns.items ≡ names_of choice
  pub typed : AreTyped choice files (map (λ part. part.items) p.parts.items) (map (λ c. c.kind) p.columns.items)

-- ---- the key

-- no column may be the key
pub record NeedsNumber (choice : Choice) (files : List (List ℕ)) : Type 0 where
  pub parts : List (List ℕ)
  pub types : List ColumnType
  pub typed : AreTyped choice files parts types
  pub none : HasNoKey (rows_of parts) types

-- N, with so many `_` after it
abbrev pub numbering : ℕ → List ℕ
numbering zero = codes "N"
numbering (suc count) = numbering count ++ codes "_"

-- the shortest of these that is none of the words
pub record IsFreeName (words : List (List ℕ)) (name : List ℕ) : Type 0 where
  pub count : ℕ
  pub is : name ≡ numbering count
  pub free : is_one_of name words ≡ false
  pub taken : (fewer : ℕ) → fewer < count → is_one_of (numbering fewer) words ≡ true

-- the key is a first column that counts
pub record IsCounted (choice : Choice) (files : List (List ℕ)) (p : Proposal) : Type 0 where
  pub number : List ℕ
  pub free : IsFreeName (words_in (chosen_in choice.columns)) number
  pub table : IsTable (record choice { counted = 0; number = Some number }) files p
  pub key : p.key ≡ 0

-- the key is the first column that may be, or one that counts, where that is asked for or no other may be
pub data IsProposed (choice : Choice) (files : List (List ℕ)) (p : Proposal) : Type 0 where
  asked : {number : List ℕ} → choice.number ≡ Some number → IsTable choice files p → p.key ≡ 0 → IsProposed choice files p
  found : choice.number ≡ None → IsTable choice files p → IsFirstKey (rows_of (map (λ part. part.items) p.parts.items)) (map (λ c. c.kind) p.columns.items) p.key → IsProposed choice files p
  needed : choice.number ≡ None → NeedsNumber choice files → IsCounted choice files p → IsProposed choice files p

-- ---- what was asked for

-- the columns of a file's header
pub record AreAll (file : List ℕ) (delimiter : ℕ) (trims : Bool) (columns : List Chosen) : Type 0 where
  pub names : Fields
  pub header : header_in trims (records_of delimiter file) ≡ Some names
  pub named : map naming_of columns ≡ map by_name names

-- all columns of the first file, where a table may have so many, and else those of them that the query names
pub record AreOfFile (files : List (List ℕ)) (delimiter : ℕ) (trims : Bool) (query : Option (List ℕ)) (columns : List Chosen) : Type 0 where
  pub all : List Chosen
  pub are_all : AreAll (slice_index_or files 0 []) delimiter trims all
  pub few : length all ≤ column_limit → columns ≡ all
  pub many : column_limit < length all → (text : List ℕ) × (query ≡ Some text) × (columns ≡ filter (is_named (unwrap_or (tokens_of text) [])) all)

-- those that were listed, or those of the file
abbrev pub AreWanted : List (List ℕ) → Wanted → Option (List ℕ) → Option (Vec Chosen Global) → Vec Chosen Global → Type 0
AreWanted files w query (Some listed) columns = columns ≡ listed
AreWanted files w query None columns = AreOfFile files w.delimiter w.trims query columns.items

abbrev pub choice_of : Wanted → Vec Chosen Global → Choice
choice_of w columns = record { columns = Some columns; delimiter = w.delimiter; number = w.number; counted = 0; null = w.null; trims = w.trims; lenient = w.lenient }

-- the table that is proposed for files
pub record IsProposal (files : List (List ℕ)) (w : Wanted) (query : Option (List ℕ)) (p : Proposal) : Type 0 where
  pub columns : Vec Chosen Global
  pub wanted : AreWanted files w query w.columns columns
  pub proposed : IsProposed (choice_of w columns) files p

-- ---- what is run

-- the line of a table that is proposed for files of these names
abbrev pub line_of_proposal : List (List ℕ) → Proposal → List ℕ
line_of_proposal names p = table_line (table_name (slice_index_or names 0 [])) p.columns.items p.key
