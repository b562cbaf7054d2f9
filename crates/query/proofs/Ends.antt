-- The parts of a query that end its tokens: what each rule turns into.
use Rattle.std.proofs.Common.{◌≡◌, ◌≢◌, ℕ, Bool, false, List, [], ◌∷◌, Option, Some, None, Result, Ok, Err, inr, refl, sym, ap, ◌∙◌, subst}
use Rattle.std.specs.Prelude.{MatchResult, bytes_eq, codes}
use Rattle.cells.specs.declared.refused.Refused.{Refused}
use Rattle.cells.specs.declared.refused.Refused.TheVariants.{QuerySyntax}
use Rattle.cells.specs.declared.token.Token.{Token}
use Rattle.cells.specs.declared.token.Token.TheVariants.{Word}
use Rattle.query.specs.Trees.{ElementTree, PredicateTree}
use Rattle.query.specs.Values.{GroupedTree, GroupsTree, HavingTree, QueryTree, all_rows, from_tree, no_having, query_tree}
use Rattle.query.specs.Grammar.{Separated, SpellsItem, SpellsName, SpellsElement, SpellsPredicate, SpellsWhere, no_where, where_predicate, SpellsGroups, no_groups, group_by, SpellsHaving, without_having, having, SpellsMark, SpellsQuery, query, comma, BY, DISTINCT, FROM, GROUP, HAVING, SELECT, WHERE}
use Rattle.query.specs.Having.{having_of}
use Rattle.query.specs.Reading.{AfterOr, Any, BeginsNot, Ends, Marked, ReadsPhrase, Starts, Found, Nothing}
use Rattle.query.specs.Ends.{SpellsBy, SpellsEnd, SpellsFrom, SpellsGrouped, SpellsLast, SpellsTail, Whole}
use Rattle.query.specs.declared.item.Item.{Item}
use Rattle.query.specs.declared.test.Test.{Test}
use Rattle.query.proofs.Elements.{elements_head}
use Rattle.query.proofs.Lists.{Halves, Splits, Turns}
use Rattle.query.proofs.TestsLemmas.{words_differ}

-- the predicates of WHERE, and those of HAVING
abbrev P : Type 0
P = PredicateTree (Test (List ℕ))

abbrev H : Type 0
H = PredicateTree (Test (Item (List ℕ)))

-- ---- with what the end begins
-- the tokens are none, or begin with HAVING or GROUP
data BeginsEnd : List Token → Type 0 where
  at_end : BeginsEnd []
  at_having : {more : List Token} → BeginsEnd (HAVING ∷ more)
  at_group : {more : List Token} → BeginsEnd (GROUP ∷ more)

-- hence with no other word
no_word : {ts : List Token} (w : List ℕ) → bytes_eq (codes "HAVING") w ≡ false → bytes_eq (codes "GROUP") w ≡ false → BeginsEnd ts → BeginsNot (Word w) ts
no_word w h g at_end = λ r e. let bad : [] ≡ Word w ∷ r = e in cc
no_word w h g (at_having {more = more}) = λ r e. words_differ (codes "HAVING") w more r h e
no_word w h g (at_group {more = more}) = λ r e. words_differ (codes "GROUP") w more r g e

no_comma : {ts : List Token} → BeginsEnd ts → Ends comma Any ts
no_comma at_end = record { no_more = λ r e. let bad : [] ≡ comma ∷ r = e in cc; apart = tt }
no_comma at_having = record { no_more = λ r e. let bad : HAVING ≡ comma = cc in cc; apart = tt }
no_comma at_group = record { no_more = λ r e. let bad : GROUP ≡ comma = cc in cc; apart = tt }

after_or : {ts : List Token} → BeginsEnd ts → AfterOr ts
after_or b = record { no_more = no_word (codes "OR") refl refl b; apart = record { no_more = no_word (codes "AND") refl refl b; apart = tt } }

having_begins : {ts r : List Token} {h : HavingTree} → SpellsHaving ts h r → r ≡ [] → BeginsEnd ts
having_begins without_having z = subst BeginsEnd (sym z) at_end
having_begins (having h) z = at_having

having_not_group : {ts r : List Token} {h : HavingTree} → SpellsHaving ts h r → r ≡ [] → BeginsNot GROUP ts
having_not_group without_having z = λ more e. let bad : [] ≡ GROUP ∷ more = sym z ∙ e in cc
having_not_group (having {ts = us} h) z = λ more e. words_differ (codes "HAVING") (codes "GROUP") us more refl e

grouped_begins : {ts us : List Token} {g : GroupsTree} {h : HavingTree} → SpellsGroups ts g us → SpellsEnd us h → BeginsEnd ts
grouped_begins no_groups h = having_begins h refl
grouped_begins (group_by m e) h = at_group

-- ---- the predicate of HAVING
module _ (ts : List Token) where
  pub predicate_end : (p : H) (rest : List Token) → Found (Starts (SpellsPredicate SpellsItem) AfterOr ts) p rest → rest ≡ [] → Found (Whole SpellsLast ts) p []
  predicate_end p rest found e = record {
    is = record { spells = subst (λ v. SpellsPredicate SpellsItem ts p v) e (found.is).spells; ended = refl };
    only = λ q r s. ((found.only q [] (record { spells = s.spells; apart = after_or at_end })).0, s.ended);
  }

  pub predicate_no_end : (p : H) (rest : List Token) → Found (Starts (SpellsPredicate SpellsItem) AfterOr ts) p rest → rest ≢ [] → Nothing (Whole SpellsLast ts)
  predicate_no_end p rest found other = record { none = λ q r s. other (sym (found.only q [] (record { spells = s.spells; apart = after_or at_end })).1) }

  pub last_reads : (p : H) (rest : List Token) (r : Result H Refused) → Found (Starts (SpellsPredicate SpellsItem) AfterOr ts) p rest
      → MatchResult r (λ q. (q ≡ p) × (rest ≡ [])) (λ e. (e ≡ QuerySyntax) × (rest ≢ [])) → ReadsPhrase (λ q. (q, [])) (Whole SpellsLast ts) r
  last_reads p rest (Ok q) found h = subst (λ x. Found (Whole SpellsLast ts) x []) (sym h.0) (predicate_end p rest found h.1)
  last_reads p rest (Err e) found h = inr (h.0, predicate_no_end p rest found h.1)

  pub predicate_none : Nothing (Starts (SpellsPredicate SpellsItem) AfterOr ts) → Nothing (Whole SpellsLast ts)
  predicate_none nothing = record { none = λ q r s. nothing.none q [] (record { spells = s.spells; apart = after_or at_end }) }

-- ---- HAVING at the end
pub having_none : (ts : List Token) → ts ≡ [] → Found (Whole SpellsEnd ts) no_having []
having_none ts e = record {
  is = record { spells = subst (λ v. SpellsHaving v no_having []) (sym e) without_having; ended = refl };
  only = λ h r s. (inside s.spells e, s.ended);
} where
  inside : {us r : List Token} {h : HavingTree} → SpellsHaving us h r → us ≡ [] → h ≡ no_having
  inside without_having f = refl
  inside (having h) f = absurd cc

pub having_by : (ts more : List Token) → ts ≡ HAVING ∷ more → Turns (Whole SpellsEnd ts) (Whole SpellsLast more) having_of
having_by ts more e = record {
  to = λ p r h. record { spells = subst (λ v. SpellsHaving v (having_of p) []) (sym e) (having h.spells); ended = h.ended };
  from = λ x r s. let p = inside s.spells refl e in (p.0, p.1, record { spells = p.2; ended = s.ended });
} where
  inside : {us r : List Token} {x : HavingTree} → SpellsHaving us x r → r ≡ [] → us ≡ HAVING ∷ more → (p : H) × (x ≡ having_of p) × SpellsLast more p
  inside without_having z f = absurd (let bad : [] ≡ HAVING ∷ more = sym z ∙ f in cc)
  inside {r = r} (having {ts = us} {p = p} h) z f =
      let same : us ≡ more = cc in
      (p, refl, subst (λ v. SpellsPredicate SpellsItem v p []) same (subst (λ v. SpellsPredicate SpellsItem us p v) z h))

pub having_other : (ts : List Token) → ts ≢ [] → BeginsNot HAVING ts → Nothing (Whole SpellsEnd ts)
having_other ts some other = record { none = λ h r s. inside s.spells refl some other } where
  inside : {us r : List Token} {h : HavingTree} → SpellsHaving us h r → r ≡ [] → us ≢ [] → BeginsNot HAVING us → ⊥
  inside without_having z f g = f z
  inside (having {ts = us} h) z f g = g us refl

-- ---- GROUP BY
-- GROUP BY of these elements, with or without DISTINCT
abbrev pub by_elements : Bool → List ElementTree → GroupsTree
by_elements distinct elements = record { distinct = distinct; elements = elements }

pub by_mark : (ts : List Token) (distinct : Bool) (vs : List Token) → Marked DISTINCT ts distinct vs → Turns (Starts SpellsBy (Ends comma Any) ts) (Starts (Separated comma SpellsElement) (Ends comma Any) vs) (by_elements distinct)
by_mark ts distinct vs m = record {
  to = λ es r h. record { spells = (vs, m.spells, h.spells); apart = h.apart };
  from = λ g r s.
      let t = s.spells in
      let same = m.only g.distinct t.0 t.1 (elements_head t.2) in (
        g.elements,
        ap (λ d. by_elements d g.elements) same.0,
        record { spells = subst (λ v. Separated comma SpellsElement v g.elements r) same.1 t.2; apart = s.apart },
      );
}

-- these groups, and this HAVING
abbrev pub with_having : GroupsTree → HavingTree → GroupedTree
with_having groups h = record { groups = groups; having = h }

by_of : {us r : List Token} {g : GroupsTree} → SpellsGroups us g r → (more : List Token) → us ≡ GROUP ∷ BY ∷ more → BeginsNot GROUP r → SpellsBy more g r
by_of no_groups more f other = absurd (other (BY ∷ more) f)
by_of {r = r} (group_by {ts = us} {us = ws} {d = d} {es = es} m h) more f other =
    let same : us ≡ more = cc in
    (ws, subst (λ v. SpellsMark DISTINCT v d ws) same m, h)

-- GROUP BY, and then HAVING
pub grouped_split : (ts more : List Token) → ts ≡ GROUP ∷ BY ∷ more → Splits (Whole SpellsGrouped ts) (Starts SpellsBy (Ends comma Any) more) (λ _ us. Whole SpellsEnd us) with_having
grouped_split ts more e = record {
  to = λ groups us h r b s.
      let t = b.spells in
      record { spells = (us, subst (λ v. SpellsGroups v groups us) (sym e) (group_by t.1 t.2), s.spells); ended = s.ended };
  from = λ x r s.
      let t = s.spells in
      record {
        first = x.groups;
        behind = t.0;
        second = x.having;
        is = refl;
        starts = record { spells = by_of t.1 more e (having_not_group t.2 refl); apart = no_comma (having_begins t.2 refl) };
        follows = record { spells = t.2; ended = s.ended };
      };
}

pub grouped_none : (ts : List Token) → ((more : List Token) → ts ≢ GROUP ∷ BY ∷ more) → Turns (Whole SpellsGrouped ts) (Whole SpellsEnd ts) (with_having all_rows)
grouped_none ts other = record {
  to = λ h r s. record { spells = (ts, no_groups, s.spells); ended = s.ended };
  from = λ x r s.
      let t = s.spells in
      let w = inside t.1 other in (
        x.having,
        ap (λ g. with_having g x.having) w.0,
        record { spells = subst (λ v. SpellsEnd v x.having) w.1 t.2; ended = s.ended },
      );
} where
  inside : {us r : List Token} {g : GroupsTree} → SpellsGroups us g r → ((more : List Token) → us ≢ GROUP ∷ BY ∷ more) → (g ≡ all_rows) × (r ≡ us)
  inside no_groups f = (refl, refl)
  inside (group_by {ts = us} m h) f = absurd (f us refl)

-- ---- WHERE at the end, and what follows it
module _ (ts : List Token) where
  where_from : (more : List Token) (c : Option P) (g : GroupedTree) (vs ws : List Token) → vs ≡ WHERE ∷ more → SpellsWhere vs c ws → SpellsGrouped ws g
      → (p : P) × (c ≡ Some p) × Starts (SpellsPredicate SpellsName) AfterOr more p ws
  where_from more c g vs ws e w h = inside w e (grouped_begins h.1 h.2) where
    inside : {us xs : List Token} {d : Option P} → SpellsWhere us d xs → us ≡ WHERE ∷ more → BeginsEnd xs → (p : P) × (d ≡ Some p) × Starts (SpellsPredicate SpellsName) AfterOr more p xs
    inside no_where f b = absurd (no_word (codes "WHERE") refl refl b more f)
    inside {xs = xs} (where_predicate {ts = us} {p = p} k) f b =
        let same : us ≡ more = cc in
        (p, refl, record { spells = subst (λ v. SpellsPredicate SpellsName v p xs) same k; apart = after_or b })

  pub tail_split : (more : List Token) → ts ≡ WHERE ∷ more → Splits (Whole SpellsTail ts) (Starts (SpellsPredicate SpellsName) AfterOr more) (λ _ us. Whole SpellsGrouped us) (λ p g. (Some p, g))
  tail_split more e = record {
    to = λ p us g r h s. record { spells = (us, subst (λ v. SpellsWhere v (Some p) us) (sym e) (where_predicate h.spells), s.spells); ended = s.ended };
    from = λ x r s.
        let t = s.spells in
        let w = where_from more x.0 x.1 ts t.0 e t.1 t.2 in
        record { first = w.0; behind = t.0; second = x.1; is = ap (λ c. (c, x.1)) w.1; starts = w.2; follows = record { spells = t.2; ended = s.ended } };
  }

  pub tail_none : BeginsNot WHERE ts → Turns (Whole SpellsTail ts) (Whole SpellsGrouped ts) (λ g. (None, g))
  tail_none other = record {
    to = λ g r h. record { spells = (ts, no_where, h.spells); ended = h.ended };
    from = λ x r s.
        let t = s.spells in
        let w = inside t.1 other in
        (x.1, ap (λ c. (c, x.1)) w.0, record { spells = subst (λ v. SpellsGrouped v x.1) w.1 t.2; ended = s.ended });
  } where
    inside : {us xs : List Token} {d : Option P} → SpellsWhere us d xs → BeginsNot WHERE us → (d ≡ None) × (xs ≡ us)
    inside no_where f = (refl, refl)
    inside (where_predicate {ts = us} k) f = absurd (f us refl)

  -- ---- the table and the rest
  pub from_split : Splits (Whole SpellsFrom ts) (Starts SpellsName Any ts) (λ _ us. Whole SpellsTail us) from_tree
  from_split = record {
    to = λ table us x r h s. record { spells = (us, h.spells, s.spells); ended = s.ended };
    from = λ f r s.
        let t = s.spells in
        record {
          first = f.table;
          behind = t.0;
          second = (f.condition, f.grouped);
          is = refl;
          starts = record { spells = t.1; apart = tt };
          follows = record { spells = t.2; ended = s.ended };
        };
  }

  -- ---- the query
  pub query_split : (more : List Token) → ts ≡ SELECT ∷ more → Splits (Whole SpellsQuery ts) (λ is r. Separated comma SpellsItem more is (FROM ∷ r)) (λ _ us. Whole SpellsFrom us) query_tree
  query_split more e = record {
    to = λ items us x r i s.
        let t = s.spells in
        let u = t.2 in
        let g = u.2 in
        record { spells = subst (λ v. SpellsQuery v (query_tree items x)) (sym e) (query i t.1 u.1 g.1 g.2); ended = s.ended };
    from = λ q r s. inside s.spells s.ended e;
  } where
    inside : {us r : List Token} {q : QueryTree} → SpellsQuery us q → r ≡ [] → us ≡ SELECT ∷ more → Halves (λ is v. Separated comma SpellsItem more is (FROM ∷ v)) (λ _ v. Whole SpellsFrom v) query_tree q r
    inside (query {ts = us} {us = vs} {vs = ws} {ws = xs} {xs = ys} {items = items} {table = table} {condition = d} {groups = gs} {having = hv} i n w g h) z f =
        let same : us ≡ more = cc in
        record {
          first = items;
          behind = vs;
          second = from_tree table (d, with_having gs hv);
          is = refl;
          starts = subst (λ v. Separated comma SpellsItem v items (FROM ∷ vs)) same i;
          follows = record { spells = (ws, n, (xs, w, (ys, g, h))); ended = z };
        }

  pub query_none : BeginsNot SELECT ts → Nothing (Whole SpellsQuery ts)
  query_none other = record { none = λ q r s. inside s.spells other } where
    inside : {us : List Token} {q : QueryTree} → SpellsQuery us q → BeginsNot SELECT us → ⊥
    inside (query {ts = us} i n w g h) f = f us refl
