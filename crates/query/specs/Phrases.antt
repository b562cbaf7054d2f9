-- The short phrases at the front of tokens, as functions: what the private readers answer. The rules of the grammar say
-- which they are.
use Rattle.std.specs.Prelude.{◌≢◌, ℕ, Bool, true, false, List, ◌∷◌, bytes_eq, codes, Option, Some, None, if◌then◌else◌}
use Rattle.cells.specs.Schemas.{is_reserved}
use Rattle.cells.specs.declared.token.Token.{Token}
use Rattle.cells.specs.declared.token.Token.TheVariants.{Word, Number, Quoted, Mark}
use Rattle.cells.specs.declared.token.Mark.TheVariants.{LeftParen, RightParen, Asterisk, Equals, NotEquals, LessThanOrEquals, GreaterThanOrEquals, LessThan, GreaterThan}
use Rattle.query.specs.Grammar.{Separated, SpellsOperand, SpellsLiteral, SpellsComparison, SpellsNot, AND, BETWEEN, CUBE, GROUPING, IN, IS, NULL, ROLLUP, SETS, comma, lparen, rparen}
use Rattle.query.specs.declared.test.Test.{Test}
use Rattle.query.specs.declared.test.Test.TheVariants as test
use Rattle.query.specs.declared.test.Literal.{Literal}
use Rattle.query.specs.declared.test.Literal.TheVariants as literal
use Rattle.query.specs.declared.test.Operand.{Operand}
use Rattle.query.specs.declared.test.Comparison.{Comparison}
use Rattle.query.specs.declared.test.Comparison.TheVariants as comparison
use Rattle.query.specs.declared.item.Item.{Item}
use Rattle.query.specs.declared.item.Item.TheVariants as item

-- the name at the front, and what follows it
abbrev pub name_at : List Token → Option (List ℕ × List Token)
name_at (Word n ∷ rest) = if is_reserved n then None else Some (n, rest)
name_at ts = None

-- the aggregate that a word with a name in parentheses is
abbrev pub call_of : List ℕ → List ℕ → Option (Item (List ℕ))
call_of w n =
    if bytes_eq w (codes "COUNT") then Some (item.Count n)
    else (if bytes_eq w (codes "SUM") then Some (item.Sum n)
    else (if bytes_eq w (codes "MIN") then Some (item.Min n)
    else (if bytes_eq w (codes "MAX") then Some (item.Max n)
    else None)))

-- the rest of an item that begins with a reserved word and "("
abbrev pub rows_at : List ℕ → List Token → Option (Item (List ℕ) × List Token)
rows_at w (Mark RightParen ∷ rest) = if bytes_eq w (codes "COUNT") then Some (item.CountRows, rest) else None
rows_at w ts = None

abbrev pub distinct_at : List ℕ → List Token → Option (Item (List ℕ) × List Token)
distinct_at w (Word n ∷ Mark RightParen ∷ rest) = if is_reserved n then None else (if bytes_eq w (codes "COUNT") then Some (item.CountDistinct n, rest) else None)
distinct_at w ts = None

-- the item, and what follows it
abbrev pub with_rest : List Token → Option (Item (List ℕ)) → Option (Item (List ℕ) × List Token)
with_rest rest None = None
with_rest rest (Some i) = Some (i, rest)

abbrev pub named_at : List ℕ → List ℕ → List Token → Option (Item (List ℕ) × List Token)
named_at w n (Mark RightParen ∷ rest) = if is_reserved n then None else with_rest rest (call_of w n)
named_at w n ts = None

-- an item that begins with a reserved word
abbrev pub call_at : List ℕ → List Token → Option (Item (List ℕ) × List Token)
call_at w (Mark LeftParen ∷ Mark Asterisk ∷ rest) = rows_at w rest
call_at w (Mark LeftParen ∷ Word n ∷ rest) = if bytes_eq n (codes "DISTINCT") then distinct_at w rest else named_at w n rest
call_at w ts = None

-- the item at the front that is no GROUPING, and what follows it
unfoldable pub item_at : List Token → Option (Item (List ℕ) × List Token)
item_at (Word w ∷ rest) = if is_reserved w then call_at w rest else Some (item.Column w, rest)
item_at ts = None

-- the literal, the operand and the sign of a comparison at the front, each with what follows it
abbrev pub literal_at : List Token → Option (Literal × List Token)
literal_at (Number n ∷ rest) = Some (literal.Int n, rest)
literal_at (Quoted t ∷ rest) = Some (literal.Text t, rest)
literal_at ts = None

-- the tokens begin with a literal
abbrev pub begins_literal : List Token → Bool
begins_literal (Number n ∷ rest) = true
begins_literal (Quoted t ∷ rest) = true
begins_literal ts = false

abbrev pub comparison_at : List Token → Option (Comparison × List Token)
comparison_at (Mark Equals ∷ rest) = Some (comparison.Equal, rest)
comparison_at (Mark NotEquals ∷ rest) = Some (comparison.NotEqual, rest)
comparison_at (Mark LessThan ∷ rest) = Some (comparison.Less, rest)
comparison_at (Mark LessThanOrEquals ∷ rest) = Some (comparison.LessOrEqual, rest)
comparison_at (Mark GreaterThan ∷ rest) = Some (comparison.Greater, rest)
comparison_at (Mark GreaterThanOrEquals ∷ rest) = Some (comparison.GreaterOrEqual, rest)
comparison_at ts = None

-- a test behind its first operand
pub data NullAfter {C : Type 0} (a : Operand C) : List Token → Test C → List Token → Type 0 where
  null : {us rest : List Token} {not : Bool} → SpellsNot us not (NULL ∷ rest) → NullAfter a us (test.IsNull a not) rest

pub data RangeAfter {C : Type 0} (Leaf : List Token → C → List Token → Type 0) (a : Operand C) (not : Bool) : List Token → Test C → List Token → Type 0 where
  range : {us vs rest : List Token} {low high : Operand C} → SpellsOperand Leaf us low (AND ∷ vs) → SpellsOperand Leaf vs high rest → RangeAfter Leaf a not (BETWEEN ∷ us) (test.Between a low high not) rest
  list : {us rest : List Token} {ls : List Literal} → Separated comma SpellsLiteral us ls (rparen ∷ rest) → RangeAfter Leaf a not (IN ∷ lparen ∷ us) (test.In a ls not) rest

pub data TestAfter {C : Type 0} (Leaf : List Token → C → List Token → Type 0) (a : Operand C) : List Token → Test C → List Token → Type 0 where
  after_compare : {us vs rest : List Token} {b : Operand C} {c : Comparison} → SpellsComparison us c vs → SpellsOperand Leaf vs b rest → TestAfter Leaf a us (test.Compare a c b) rest
  after_is : {us rest : List Token} {t : Test C} → NullAfter a us t rest → TestAfter Leaf a (IS ∷ us) t rest
  after_not : {us vs rest : List Token} {t : Test C} {not : Bool} → SpellsNot us not vs → RangeAfter Leaf a not vs t rest → TestAfter Leaf a us t rest

-- the tokens begin with no form of grouping element but a unit
pub record IsPlain (ts : List Token) : Type 0 where
  pub no_empty : (more : List Token) → ts ≢ lparen ∷ rparen ∷ more
  pub no_rollup : (more : List Token) → ts ≢ ROLLUP ∷ lparen ∷ more
  pub no_cube : (more : List Token) → ts ≢ CUBE ∷ lparen ∷ more
  pub no_sets : (more : List Token) → ts ≢ GROUPING ∷ SETS ∷ lparen ∷ more
