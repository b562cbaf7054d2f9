-- The tokens and the schema that a text spells, computed.
use Rattle.std.specs.Prelude.{ℕ, zero, suc, Bool, not, ◌&&◌, ◌==◌, nat_le, List, [], ◌∷◌, bytes_eq, length, map, Option, Some, None, option_map, option_and_then, if◌then◌else◌}
use Rattle.std.specs.Set.{distinct_count}
use Rattle.cells.specs.declared.schema.Column.{Column}
use Rattle.cells.specs.declared.schema.ColumnDefinition.{ColumnDefinition}
use Rattle.cells.specs.declared.token.Token.{Token}
use Rattle.cells.specs.declared.token.Token.TheVariants.{Word, Mark}
use Rattle.cells.specs.declared.token.Mark.TheVariants.{LeftParen, RightParen, Comma}
use Rattle.cells.specs.Limits.{column_limit}
use Rattle.cells.specs.Scanning.{token_at}
use Rattle.cells.specs.SchemaReading.{definition_at, key_place}
use Rattle.cells.specs.Schemas.{is_reserved}
use Rattle.cells.specs.Spelling.{without_blanks}
use Rattle.cells.specs.Values.{Table}

-- the tokens of a text that begins with no blank, if they are no more than so many
abbrev pub tokens_within : ℕ → List ℕ → Option (List Token)
tokens_within most [] = Some []
tokens_within zero (b ∷ bs) = None
tokens_within (suc most) (b ∷ bs) =
    option_and_then (λ x. option_map (λ ts. x.0 ∷ ts) (tokens_within most (without_blanks x.1))) (token_at (b ∷ bs))

-- the tokens that the text spells: no more than its bytes
abbrev pub tokens_of : List ℕ → Option (List Token)
tokens_of text = tokens_within (length text) (without_blanks text)

-- the definition and what follows it: the `)` that ends the tokens, or a comma and other definitions
abbrev pub with_others : (List Token → Option (List ColumnDefinition)) → ColumnDefinition → List Token → Option (List ColumnDefinition)
with_others others d (Mark RightParen ∷ []) = Some (d ∷ [])
with_others others d (Mark Comma ∷ rest) = option_map (λ ds. d ∷ ds) (others rest)
with_others others d rest = None

-- the column definitions up to the `)` that ends the tokens, if they are no more than so many
abbrev pub definitions_within : ℕ → List Token → Option (List ColumnDefinition)
definitions_within zero ts = None
definitions_within (suc most) ts = option_and_then (λ x. with_others (definitions_within most) x.0 x.1) (definition_at ts)

abbrev pub are_different : List Column → Bool
are_different cs = distinct_count bytes_eq (map (λ c. c.name) cs) == length cs

-- the table's name is not reserved, the columns are not too many, and their names are different
abbrev pub may_define : List ℕ → List ColumnDefinition → Bool
may_define name ds = not (is_reserved name) && nat_le (length ds) column_limit && are_different (map (λ d. d.column) ds)

-- the table that the definitions define, where exactly one is the key's
abbrev pub defined : List ℕ → List ColumnDefinition → Option Table
defined name ds =
    if may_define name ds then option_map (λ k. record { name = name; columns = map (λ d. d.column) ds; key = k }) (key_place ds) else None

-- the schema that the tokens spell
abbrev pub table_of : List Token → Option Table
table_of (Word name ∷ Mark LeftParen ∷ rest) = option_and_then (defined name) (definitions_within (length rest) rest)
table_of ts = None

-- the schema that the text spells
abbrev pub schema_of : List ℕ → Option Table
schema_of text = option_and_then table_of (tokens_of text)
