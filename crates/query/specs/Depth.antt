-- How many parentheses are open at a token.
use Rattle.std.specs.Prelude.{ℕ, ◌+◌, Bool, true, false, List, count_by, length, map, nat_lt, take}
use Rattle.std.specs.List.{list_any, range_with_len}
use Rattle.cells.specs.declared.token.Mark.TheVariants.{LeftParen, RightParen}
use Rattle.cells.specs.declared.token.Token.{Token}
use Rattle.cells.specs.declared.token.Token.TheVariants.{Mark}
use Rattle.query.specs.Limits.{parenthesis_limit}

abbrev pub is_open : Token → Bool
is_open (Mark LeftParen) = true
is_open t = false

abbrev pub is_close : Token → Bool
is_close (Mark RightParen) = true
is_close t = false

-- the first n beginnings of a list, but for the empty one
abbrev pub beginnings : ℕ → List Token → List (List Token)
beginnings n ts = map (λ k. take k ts) (range_with_len 1 n)

-- more parentheses have been opened than closed, by more than the limit
abbrev pub is_deep : List Token → Bool
is_deep front = nat_lt (count_by is_close front + parenthesis_limit) (count_by is_open front)

-- so it is at some token
abbrev pub is_too_deep : List Token → Bool
is_too_deep ts = list_any is_deep (beginnings (length ts) ts)
