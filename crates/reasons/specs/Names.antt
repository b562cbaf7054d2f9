-- Names that a table does not have.
use Rattle.std.specs.Prelude.{◌≡◌, ◌&&◌, ℕ, Bool, true, not, List, Some, bytes_eq, slice_get, if◌then◌else◌}
use Rattle.cells.specs.Schemas.{is_reserved}
use Rattle.cells.specs.Values.{Table}
use Rattle.cells.specs.declared.token.Token.{Token}
use Rattle.cells.specs.declared.token.Token.TheVariants.{Word}
use Rattle.query.specs.Checks.{is_column}

-- the word is a name, and not that of the table where the table is named, nor that of a column elsewhere
abbrev pub is_unknown : Table → Bool → List ℕ → Bool
is_unknown t of_table word = not (is_reserved word) && not (if of_table then bytes_eq word t.name else is_column t.columns word)

-- the token at the place is such a name
pub record IsOtherName (t : Table) (tokens : List Token) (place : ℕ) : Type 0 where
  pub of_table : Bool
  pub word : List ℕ
  pub there : slice_get tokens place ≡ Some (Word word)
  pub unknown : is_unknown t of_table word ≡ true
