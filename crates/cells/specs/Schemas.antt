-- The schema that a text spells (after ISO/IEC 9075-2:1999, 11.3 and 11.4):
--     schema = name "(" column { "," column } ")"
--     column = name ( INT | TEXT ) [ KEY ]
use Rattle.std.specs.Prelude.{◌≡◌, ℕ, ◌<◌, ◌≤◌, Bool, false, List, [], ◌∷◌, ◌++◌, bytes_eq, length, map, count_by, position, Some, if◌then◌else◌, codes}
use Rattle.std.specs.List.{IsDistinct, list_any}
use Rattle.cells.specs.declared.schema.ColumnDefinition.{ColumnDefinition}
use Rattle.cells.specs.declared.schema.ColumnType.{ColumnType}
use Rattle.cells.specs.declared.schema.ColumnType.TheVariants.{Int, Text}
use Rattle.cells.specs.declared.token.Token.{Token}
use Rattle.cells.specs.declared.token.Token.TheVariants.{Word, Mark}
use Rattle.cells.specs.declared.token.Mark.TheVariants.{LeftParen, RightParen, Comma}
use Rattle.cells.specs.Limits.{column_limit}
use Rattle.cells.specs.Spelling.{Spells}
use Rattle.cells.specs.Values.{Table}

-- the words that are never names
abbrev pub reserved_words : List (List ℕ)
reserved_words =
    codes "SELECT" ∷ codes "FROM" ∷ codes "WHERE" ∷ codes "GROUP" ∷ codes "BY" ∷ codes "HAVING" ∷ codes "ROLLUP"
    ∷ codes "CUBE" ∷ codes "GROUPING" ∷ codes "SETS" ∷ codes "COUNT" ∷ codes "SUM" ∷ codes "MIN" ∷ codes "MAX"
    ∷ codes "DISTINCT" ∷ codes "AND" ∷ codes "OR" ∷ codes "NOT" ∷ codes "IS" ∷ codes "NULL" ∷ codes "BETWEEN"
    ∷ codes "IN" ∷ codes "INT" ∷ codes "TEXT" ∷ codes "KEY" ∷ []

abbrev pub is_reserved : List ℕ → Bool
is_reserved word = list_any (bytes_eq word) reserved_words

-- the word of a type
abbrev pub type_word : ColumnType → List ℕ
type_word Int = codes "INT"
type_word Text = codes "TEXT"

-- column = name ( INT | TEXT ) [ KEY ]
abbrev pub column_tokens : ColumnDefinition → List Token
column_tokens c = Word c.column.name ∷ Word (type_word c.column.kind) ∷ (if c.is_key then Word (codes "KEY") ∷ [] else [])

-- column { "," column }
abbrev pub columns_tokens : List ColumnDefinition → List Token
columns_tokens [] = []
columns_tokens (c ∷ []) = column_tokens c
columns_tokens (c ∷ d ∷ ds) = column_tokens c ++ Mark Comma ∷ columns_tokens (d ∷ ds)

-- schema = name "(" column { "," column } ")"
abbrev pub schema_tokens : List ℕ → List ColumnDefinition → List Token
schema_tokens name ds = Word name ∷ Mark LeftParen ∷ (columns_tokens ds ++ Mark RightParen ∷ [])

-- a table may be defined by these columns, of which the one at the key's place is the key
pub record IsTable (t : Table) (ds : List ColumnDefinition) : Type 0 where
  pub columns : t.columns ≡ map (λ d. d.column) ds
  pub some : 0 < length ds
  pub few : length ds ≤ column_limit
  pub table_name : is_reserved t.name ≡ false
  pub column_names : list_any (λ d. is_reserved d.column.name) ds ≡ false
  pub different : IsDistinct bytes_eq (map (λ c. c.name) t.columns)
  pub one_key : count_by (λ d. d.is_key) ds ≡ 1
  pub key : position (λ d. d.is_key) ds ≡ Some t.key

-- the tokens spell the schema
pub record SpellsSchema (tokens : List Token) (t : Table) : Type 0 where
  pub definitions : List ColumnDefinition
  pub spelt : tokens ≡ schema_tokens t.name definitions
  pub table : IsTable t definitions

-- the text spells tokens that spell the schema
abbrev pub TextSpellsSchema : List ℕ → Table → Type 0
TextSpellsSchema text t = (tokens : List Token) × Spells text tokens × SpellsSchema tokens t
