-- A text is one query, or it has one first fault.
use Rattle.std.proofs.Common.{◌≡◌, ℕ, ◌<◌, ◌≤◌, true, false, List, [], length, Option, Some, None, ◌⊎◌, inl, inr, refl, sym, ap, ◌∙◌, subst, arith, Result, Ok, Err}
use Rattle.std.specs.Prelude.{MatchResult}
use Rattle.std.proofs.lemmas.Bool.{cases_Bool, cases_lt}
use Rattle.std.proofs.lemmas.Option.{none-some, same_Some}
use Rattle.cells.specs.Reading.{tokens_of}
use Rattle.cells.specs.Refusals.{Answers}
use Rattle.cells.specs.declared.refused.Refused.{Refused}
use Rattle.cells.specs.declared.refused.Refused.TheVariants.{Limit, OutOfMemory, QuerySyntax}
use Rattle.cells.specs.declared.token.Token.{Token}
use Rattle.query.specs.Depth.{is_too_deep}
use Rattle.query.specs.Ends.{Whole}
use Rattle.query.specs.Grammar.{SpellsQuery}
use Rattle.query.specs.Limits.{query_limit}
use Rattle.query.specs.Queries.{FirstFault, HasTokens, IsAnswered, IsNoQuery, IsQuery, a_fault, a_query, no_query, no_tokens, too_deep, too_long, too_many}
use Rattle.query.specs.Values.{QueryTree, has_too_many}
use Rattle.query.proofs.Deciding.{query_decided}
use Rattle.query.proofs.Decisions.{Decided, no_phrase, one_phrase}

-- ---- tokens spell one query at most
one_by : (ts : List Token) (q p : QueryTree) → Decided (Whole SpellsQuery ts) → SpellsQuery ts q → SpellsQuery ts p → q ≡ p
one_by ts q p (one_phrase x r h) s t =
    (h.only q [] (record { spells = s; ended = refl })).0 ∙ sym (h.only p [] (record { spells = t; ended = refl })).0
one_by ts q p (no_phrase h) s t = absurd (h.none q [] (record { spells = s; ended = refl }))

one_spelt : (ts us : List Token) (q p : QueryTree) → ts ≡ us → SpellsQuery ts q → SpellsQuery us p → q ≡ p
one_spelt ts us q p same s t = one_by us q p (query_decided us) (subst (λ vs. SpellsQuery vs q) same s) t

module _ (text : List ℕ) where
  same_tokens : (ts us : List Token) → tokens_of text ≡ Some ts → tokens_of text ≡ Some us → ts ≡ us
  same_tokens ts us a b = same_Some ts us (sym a ∙ b)

  -- what can't be both
  long_short : query_limit < length text → length text ≤ query_limit → ⊥
  long_short h k = omega (arith, h, k)

  none_spelt : (ts : List Token) → tokens_of text ≡ None → tokens_of text ≡ Some ts → ⊥
  none_spelt ts a b = none-some ts (sym a ∙ b)

  deep_shallow : (ts us : List Token) → ts ≡ us → is_too_deep ts ≡ true → is_too_deep us ≡ false → ⊥
  deep_shallow ts us same a b = let both : true ≡ false = sym a ∙ ap is_too_deep same ∙ b in cc

  no_query_here : (ts us : List Token) (q : QueryTree) → ts ≡ us → IsNoQuery ts → SpellsQuery us q → ⊥
  no_query_here ts us q same nothing s = nothing.none q (subst (λ vs. SpellsQuery vs q) (sym same) s)

  -- ---- at most one
  pub one_query : (q p : QueryTree) → IsQuery text q → IsQuery text p → q ≡ p
  one_query q p a b = one_spelt a.tokens b.tokens q p (same_tokens a.tokens b.tokens a.has.spelt b.has.spelt) a.query b.query

  pub no_both : (q : QueryTree) (e : Refused) → IsQuery text q → FirstFault text e → ⊥
  no_both q e a (too_long h) = long_short h a.has.short
  no_both q e a (no_tokens k n) = none_spelt a.tokens n a.has.spelt
  no_both q e a (too_deep {ts = ts} k s d) = deep_shallow ts a.tokens (same_tokens ts a.tokens s a.has.spelt) d a.has.shallow
  no_both q e a (no_query {ts = ts} h n) = no_query_here ts a.tokens q (same_tokens ts a.tokens h.spelt a.has.spelt) n a.query
  no_both q e a (too_many {ts = ts} {q = p} h s many) =
      let same = one_spelt ts a.tokens p q (same_tokens ts a.tokens h.spelt a.has.spelt) s a.query in
      let both : true ≡ false = sym many ∙ ap has_too_many same ∙ a.few in
      cc

  pub one_fault : (e f : Refused) → FirstFault text e → FirstFault text f → e ≡ f
  one_fault e f (too_long h) (too_long k) = refl
  one_fault e f (too_long h) (no_tokens k n) = absurd (long_short h k)
  one_fault e f (too_long h) (too_deep k s d) = refl
  one_fault e f (too_long h) (no_query k n) = absurd (long_short h k.short)
  one_fault e f (too_long h) (too_many k s m) = refl
  one_fault e f (no_tokens h n) (too_long k) = absurd (long_short k h)
  one_fault e f (no_tokens h n) (no_tokens k m) = refl
  one_fault e f (no_tokens h n) (too_deep {ts = us} k s d) = absurd (none_spelt us n s)
  one_fault e f (no_tokens h n) (no_query k m) = refl
  one_fault e f (no_tokens h n) (too_many {ts = us} k s m) = absurd (none_spelt us n k.spelt)
  one_fault e f (too_deep h s d) (too_long k) = refl
  one_fault e f (too_deep {ts = ts} h s d) (no_tokens k n) = absurd (none_spelt ts n s)
  one_fault e f (too_deep h s d) (too_deep k t c) = refl
  one_fault e f (too_deep {ts = ts} h s d) (no_query {ts = us} k n) = absurd (deep_shallow ts us (same_tokens ts us s k.spelt) d k.shallow)
  one_fault e f (too_deep h s d) (too_many k t m) = refl
  one_fault e f (no_query h n) (too_long k) = absurd (long_short k h.short)
  one_fault e f (no_query h n) (no_tokens k m) = refl
  one_fault e f (no_query {ts = ts} h n) (too_deep {ts = us} k s d) = absurd (deep_shallow us ts (same_tokens us ts s h.spelt) d h.shallow)
  one_fault e f (no_query h n) (no_query k m) = refl
  one_fault e f (no_query {ts = ts} h n) (too_many {ts = us} {q = q} k s m) = absurd (no_query_here ts us q (same_tokens ts us h.spelt k.spelt) n s)
  one_fault e f (too_many h s m) (too_long k) = refl
  one_fault e f (too_many {ts = ts} h s m) (no_tokens k n) = absurd (none_spelt ts n h.spelt)
  one_fault e f (too_many h s m) (too_deep k t d) = refl
  one_fault e f (too_many {ts = ts} {q = q} h s m) (no_query {ts = us} k n) = absurd (no_query_here us ts q (same_tokens us ts k.spelt h.spelt) n s)
  one_fault e f (too_many h s m) (too_many k t n) = refl

  -- what is the text's query, or its first fault, is no other answer
  pub only_answer : (r : Result QueryTree Refused) → MatchResult r (λ q. IsQuery text q) (λ e. (e ≡ OutOfMemory) ⊎ FirstFault text e) → (q : QueryTree) → IsQuery text q → Answers QuerySyntax (Some q) r
  only_answer (Ok p) found q is = ap Some (one_query q p is found)
  only_answer (Err e) (inl memory) q is = inl memory
  only_answer (Err e) (inr fault) q is = absurd (no_both q e is fault)

  -- ---- at least one
  by_items : (ts : List Token) (q : QueryTree) → HasTokens text ts → SpellsQuery ts q → (has_too_many q ≡ true) ⊎ (has_too_many q ≡ false) → IsAnswered text
  by_items ts q has s (inl many) = a_fault Limit (too_many has s many)
  by_items ts q has s (inr few) = a_query q (record { tokens = ts; has = has; query = s; few = few })

  by_query : (ts : List Token) → HasTokens text ts → Decided (Whole SpellsQuery ts) → IsAnswered text
  by_query ts has (one_phrase q r h) = by_items ts q has (h.is).spells (cases_Bool (has_too_many q))
  by_query ts has (no_phrase h) = a_fault QuerySyntax (no_query has (record { none = λ q s. h.none q [] (record { spells = s; ended = refl }) }))

  by_depth : (ts : List Token) → length text ≤ query_limit → tokens_of text ≡ Some ts → (is_too_deep ts ≡ true) ⊎ (is_too_deep ts ≡ false) → IsAnswered text
  by_depth ts short spelt (inl deep) = a_fault Limit (too_deep short spelt deep)
  by_depth ts short spelt (inr shallow) = by_query ts (record { short = short; spelt = spelt; shallow = shallow }) (query_decided ts)

  by_tokens : (o : Option (List Token)) → length text ≤ query_limit → tokens_of text ≡ o → IsAnswered text
  by_tokens None short e = a_fault QuerySyntax (no_tokens short e)
  by_tokens (Some ts) short e = by_depth ts short e (cases_Bool (is_too_deep ts))

  by_length : (query_limit < length text) ⊎ (length text ≤ query_limit) → IsAnswered text
  by_length (inl long) = a_fault Limit (too_long long)
  by_length (inr short) = by_tokens (tokens_of text) short refl

  pub answered : IsAnswered text
  answered = by_length (cases_lt query_limit (length text))
