-- The first fault of a text, where each test of `read` ends it.
use Rattle.std.proofs.Common.{◌≡◌, ℕ, ◌≤◌, Bool, true, false, ◌||◌, List, [], length, Option, None, Some, ◌⊎◌, inl, inr, refl, sym, ◌∙◌, subst, Result, Ok, Err}
use Rattle.std.specs.List.{list_any}
use Rattle.std.specs.Prelude.{MatchOption, MatchResult, filter, nat_lt}
use Rattle.std.proofs.lemmas.Option.{none-some, same_Some}
use Rattle.cells.specs.Reading.{tokens_of}
use Rattle.cells.specs.declared.refused.Refused.{Refused}
use Rattle.cells.specs.declared.refused.Refused.TheVariants.{OutOfMemory, QuerySyntax}
use Rattle.cells.specs.declared.token.Token.{Token}
use Rattle.query.specs.Ends.{Whole}
use Rattle.query.specs.Grammar.{SpellsQuery}
use Rattle.query.specs.Limits.{item_limit, query_limit}
use Rattle.query.specs.Queries.{FirstFault, HasTokens, IsQuery, no_query, no_tokens, too_many}
use Rattle.query.specs.Reading.{Found, Nothing}
use Rattle.query.specs.Values.{IsKept, QueryTree, has_too_many, is_aggregate, is_long, items_of}
use Rattle.cells.specs.declared.refused.Refused.TheVariants.{Limit}
use Rattle.query.proofs.Filled.{query_filled}

-- the clauses, unless they are too many
pub within_by : (q : QueryTree) (fault : Option Refused) (r : Result QueryTree Refused) → MatchOption fault (has_too_many q ≡ false) (λ e. (e ≡ Limit) × (has_too_many q ≡ true))
    → MatchResult r (λ p. (p ≡ q) × (fault ≡ None)) (λ e. fault ≡ Some e) → MatchResult r (λ p. (p ≡ q) × (has_too_many p ≡ false)) (λ e. (e ≡ Limit) × (has_too_many q ≡ true))
within_by q None (Ok p) few h = (h.0, subst (λ x. has_too_many x ≡ false) (sym h.0) few)
within_by q None (Err e) few h = absurd (none-some e h)
within_by q (Some f) (Ok p) many h = absurd (none-some f (sym h.1))
within_by q (Some f) (Err e) many h = let same : f ≡ e = same_Some f e h in (sym same ∙ many.0, many.1)

neither : (a b : Bool) → (a || b) ≡ false → b ≡ false
neither true b e = absurd cc
neither false b e = e

-- what is spelt within the limits may be a query
pub kept_by : (ts : List Token) (q p : QueryTree) → Found (Whole SpellsQuery ts) q [] → (p ≡ q) × (has_too_many p ≡ false) → IsKept p
kept_by ts q p found few = record {
  filled = query_filled (subst (SpellsQuery ts) (sym few.0) (found.is).spells);
  short = neither (nat_lt item_limit (length p.items) || nat_lt item_limit (length (filter is_aggregate p.having.items))) (list_any is_long (items_of p)) few.1;
}

module _ (text : List ℕ) where
  pub token_fault : length text ≤ query_limit → (e : Refused) → (e ≡ OutOfMemory) ⊎ ((e ≡ QuerySyntax) × (tokens_of text ≡ None)) → (e ≡ OutOfMemory) ⊎ FirstFault text e
  token_fault short e (inl memory) = inl memory
  token_fault short e (inr fault) = inr (subst (FirstFault text) (sym fault.0) (no_tokens short fault.1))

  module _ (ts : List Token) (has : HasTokens text ts) where
    pub query_fault : (e : Refused) → (e ≡ OutOfMemory) ⊎ ((e ≡ QuerySyntax) × Nothing (Whole SpellsQuery ts)) → (e ≡ OutOfMemory) ⊎ FirstFault text e
    query_fault e (inl memory) = inl memory
    query_fault e (inr fault) =
        inr (subst (FirstFault text) (sym fault.0) (no_query has (record { none = λ q s. (fault.1).none q [] (record { spells = s; ended = refl }) })))

    pub many_fault : (q : QueryTree) (e : Refused) → Found (Whole SpellsQuery ts) q [] → (e ≡ Limit) × (has_too_many q ≡ true) → (e ≡ OutOfMemory) ⊎ FirstFault text e
    many_fault q e found many = inr (subst (FirstFault text) (sym many.0) (too_many has (found.is).spells many.1))

    pub few_found : (q p : QueryTree) → Found (Whole SpellsQuery ts) q [] → (p ≡ q) × (has_too_many p ≡ false) → IsQuery text p
    few_found q p found few = record { tokens = ts; has = has; query = subst (SpellsQuery ts) (sym few.0) (found.is).spells; few = few.1 }
