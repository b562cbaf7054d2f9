-- The column definition at the front of tokens, as a function: what the private readers answer.
use Rattle.std.specs.Prelude.{◌≡◌, ◌≢◌, ℕ, ◌<◌, Bool, true, false, List, [], ◌∷◌, ◌++◌, bytes_eq, ◌==◌, count_by, position, length, Option, Some, None, if◌then◌else◌, codes}
use Rattle.std.specs.List.{list_any}
use Rattle.cells.specs.declared.schema.ColumnDefinition.{ColumnDefinition}
use Rattle.cells.specs.declared.schema.ColumnType.{ColumnType}
use Rattle.cells.specs.declared.schema.ColumnType.TheVariants.{Int, Text}
use Rattle.cells.specs.declared.token.Token.{Token}
use Rattle.cells.specs.declared.token.Token.TheVariants.{Word, Number, Quoted, Mark}
use Rattle.cells.specs.declared.token.Mark.{Mark as Sign}
use Rattle.cells.specs.declared.token.Mark.TheVariants.{RightParen}
use Rattle.cells.specs.Schemas.{columns_tokens, is_reserved}

-- the type that a word names
abbrev pub type_of : List ℕ → Option ColumnType
type_of word = if bytes_eq word (codes "INT") then Some Int else (if bytes_eq word (codes "TEXT") then Some Text else None)

-- whether the tokens begin with KEY, and what follows the word or else the tokens themselves
abbrev pub key_mark : List Token → Bool × List Token
key_mark [] = (false, [])
key_mark (Word word ∷ rest) = if bytes_eq word (codes "KEY") then (true, rest) else (false, Word word ∷ rest)
key_mark (Number n ∷ rest) = (false, Number n ∷ rest)
key_mark (Quoted text ∷ rest) = (false, Quoted text ∷ rest)
key_mark (Mark m ∷ rest) = (false, Mark m ∷ rest)

-- the definition of a column of this name, and what follows it
abbrev pub definition_of : List ℕ → Option ColumnType → Bool × List Token → Option (ColumnDefinition × List Token)
definition_of name None after = None
definition_of name (Some kind) after = Some (record { column = record { name = name; kind = kind }; is_key = after.0 }, after.1)

unfoldable pub definition_at : List Token → Option (ColumnDefinition × List Token)
definition_at (Word name ∷ Word word ∷ rest) = if is_reserved name then None else definition_of name (type_of word) (key_mark rest)
definition_at ts = None

-- the tokens are column definitions with commas between, whose names are not reserved, and the `)` that ends them
pub record SpellsColumns (ts : List Token) (ds : List ColumnDefinition) : Type 0 where
  pub spelt : ts ≡ columns_tokens ds ++ Mark RightParen ∷ []
  pub some : 0 < length ds
  pub names : list_any (λ d. is_reserved d.column.name) ds ≡ false

-- the place of the key, where there is exactly one
abbrev pub key_place : List ColumnDefinition → Option ℕ
key_place ds = if count_by (λ d. d.is_key) ds == 1 then position (λ d. d.is_key) ds else None

abbrev pub mark_token : Sign → Token
mark_token m = Mark m

-- the tokens do not begin with the sign
abbrev pub BeginsNot : Sign → List Token → Type 0
BeginsNot m ts = (rest : List Token) → ts ≢ Mark m ∷ rest
