-- Queries with parameters, which stand for values.
use Rattle.std.specs.Prelude.{◌≡◌, ◌==◌, ◌&&◌, ◌||◌, ◌++◌, ◌∷◌, [], ℕ, Bool, false, List, Option, None, Some, not}
use Rattle.cells.specs.Spelling.{Spells}
use Rattle.cells.specs.declared.cell.Cell.{Cell}
use Rattle.cells.specs.declared.cell.Cell.TheVariants.{Int, Null, Text}
use Rattle.cells.specs.declared.token.Token.{Token}
use Rattle.cells.specs.declared.token.Token.TheVariants.{Number, Quoted}
use Rattle.script.specs.Parameters.{is_quoted, turned}
use Rattle.read_back.specs.ValueReading.{IsSayable}

-- a parameter is in the text, which begins in quotes or not
abbrev pub has_mark : Bool → List ℕ → Bool
has_mark quoted [] = false
has_mark quoted (b ∷ bs) = (b == 63 && not quoted) || has_mark (turned quoted b) bs

-- the token of a value's literal; NULL has none
abbrev pub token_of : Cell → Option Token
token_of Null = None
token_of (Int n) = Some (Number n)
token_of (Text text) = Some (Quoted text)

-- the query has these tokens where the values stand for its parameters, in their order: those of the texts between them, and of
-- each value one
pub data HasTokens : List ℕ → List Cell → List Token → Type 0 where
  no_parameter : {text : List ℕ} {ts : List Token} → has_mark false text ≡ false → Spells text ts → HasTokens text [] ts
  parameter : (part rest : List ℕ) {x : Cell} {xs : List Cell} {t : Token} (ts us : List Token) →
      has_mark false part ≡ false → is_quoted false part ≡ false → Spells part ts → IsSayable x → token_of x ≡ Some t → HasTokens rest xs us →
      HasTokens (part ++ 63 ∷ rest) (x ∷ xs) (ts ++ t ∷ us)

-- the query is filled with the values, and spells these tokens then
pub record IsFilled (filled : Option (List ℕ)) (ts : List Token) : Type 0 where
  pub text : List ℕ
  pub is : filled ≡ Some text
  pub spells : Spells text ts
