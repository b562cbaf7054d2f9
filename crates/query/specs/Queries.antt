-- The query that a text is, and the first fault of a text that is none. Each text has one of them, and only one.
use Rattle.std.specs.Prelude.{◌≡◌, ℕ, ◌<◌, ◌≤◌, true, false, List, length, Some, None}
use Rattle.cells.specs.Reading.{tokens_of}
use Rattle.cells.specs.declared.refused.Refused.{Refused}
use Rattle.cells.specs.declared.refused.Refused.TheVariants.{Limit, QuerySyntax}
use Rattle.cells.specs.declared.token.Token.{Token}
use Rattle.query.specs.Depth.{is_too_deep}
use Rattle.query.specs.Grammar.{SpellsQuery}
use Rattle.query.specs.Limits.{query_limit}
use Rattle.query.specs.Values.{QueryTree, has_too_many}

-- the text is not too long, spells the tokens, and no parenthesis in them is too deep
pub record HasTokens (text : List ℕ) (tokens : List Token) : Type 0 where
  pub short : length text ≤ query_limit
  pub spelt : tokens_of text ≡ Some tokens
  pub shallow : is_too_deep tokens ≡ false

-- the text is the query, without a fault
pub record IsQuery (text : List ℕ) (q : QueryTree) : Type 0 where
  pub tokens : List Token
  pub has : HasTokens text tokens
  pub query : SpellsQuery tokens q
  pub few : has_too_many q ≡ false

-- the tokens spell no query
pub record IsNoQuery (tokens : List Token) : Type 0 where
  pub none : (q : QueryTree) → SpellsQuery tokens q → ⊥

-- the first fault of a text, in this order: it is too long, it is no list of tokens, its parentheses are too deep, it is
-- no query, it has too many items, too many aggregates in HAVING, or a GROUPING of too many columns
pub data FirstFault (text : List ℕ) : Refused → Type 0 where
  too_long : query_limit < length text → FirstFault text Limit
  no_tokens : length text ≤ query_limit → tokens_of text ≡ None → FirstFault text QuerySyntax
  too_deep : {ts : List Token} → length text ≤ query_limit → tokens_of text ≡ Some ts → is_too_deep ts ≡ true → FirstFault text Limit
  no_query : {ts : List Token} → HasTokens text ts → IsNoQuery ts → FirstFault text QuerySyntax
  too_many : {ts : List Token} {q : QueryTree} → HasTokens text ts → SpellsQuery ts q → has_too_many q ≡ true → FirstFault text Limit

-- the text is a query, or it has a first fault
pub data IsAnswered (text : List ℕ) : Type 0 where
  a_query : (q : QueryTree) → IsQuery text q → IsAnswered text
  a_fault : (e : Refused) → FirstFault text e → IsAnswered text
