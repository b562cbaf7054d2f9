-- Leaves: what an operand may be beside a literal.
use Rattle.std.specs.Prelude.{◌≡◌, ◌||◌, ℕ, Bool, true, false, not, List, ◌∷◌, bytes_eq, codes, refl}
use Rattle.std.proofs.Common.{ap}
use Rattle.cells.specs.Schemas.{is_reserved}
use Rattle.cells.specs.declared.token.Token.{Token}
use Rattle.cells.specs.declared.token.Token.TheVariants.{Word}
use Rattle.query.specs.declared.item.Item.{Item}
use Rattle.query.specs.Grammar.{SpellsItem, SpellsName, name, column, grouping, count_rows, count, count_distinct, sum, min, max}

-- the words by which calls begin
abbrev pub is_call_word : List ℕ → Bool
is_call_word w = bytes_eq w (codes "GROUPING") || bytes_eq w (codes "COUNT") || bytes_eq w (codes "SUM") || bytes_eq w (codes "MIN") || bytes_eq w (codes "MAX")

-- the tokens begin as a leaf may: with a name, or with the word of a call
abbrev pub begins_leaf : List Token → Bool
begins_leaf (Word w ∷ rest) = not (is_reserved w) || is_call_word w
begins_leaf ts = false

pub name_begins : (ts : List Token) (n : List ℕ) (rest : List Token) → SpellsName ts n rest → begins_leaf ts ≡ true
name_begins ts n rest (name free) = ap (λ b. not b || is_call_word n) free

pub item_begins : (ts : List Token) (i : Item (List ℕ)) (rest : List Token) → SpellsItem ts i rest → begins_leaf ts ≡ true
item_begins ts i rest (column {n = n} free) = ap (λ b. not b || is_call_word n) free
item_begins ts i rest (grouping names) = refl
item_begins ts i rest count_rows = refl
item_begins ts i rest (count free) = refl
item_begins ts i rest (count_distinct free) = refl
item_begins ts i rest (sum free) = refl
item_begins ts i rest (min free) = refl
item_begins ts i rest (max free) = refl
