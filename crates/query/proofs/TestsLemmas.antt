-- Tests.
use Rattle.std.proofs.Common.{◌≡◌, ℕ, Bool, true, false, List, ◌∷◌, Some, None, refl, sym, ap, ◌∙◌, subst}
use Rattle.std.specs.Prelude.{bytes_eq, codes}
use Rattle.std.proofs.lemmas.Slice.Eq.{bytes_eq-Decides}
use Rattle.std.proofs.lemmas.Option.{none-some, some_pair_parts}
use Rattle.cells.specs.declared.token.Token.{Token}
use Rattle.cells.specs.declared.token.Token.TheVariants.{Word, Number, Quoted}
use Rattle.query.specs.Grammar.{Separated, SpellsLiteral, number, text, SpellsOperand, leaf_operand, literal_operand, SpellsMark, SpellsNot, without, with, SpellsTest, compare, is_null, between, among, lparen, rparen, comma, AND, BETWEEN, IN, IS, NOT, NULL}
use Rattle.query.specs.Leaves.{begins_leaf}
use Rattle.query.specs.Phrases.{begins_literal, comparison_at, NullAfter, null, RangeAfter, range, list, TestAfter, after_compare, after_is, after_not}
use Rattle.query.specs.Reading.{Any, BeginsNot, BeginsNotCall, Marked, Starts, Found, Nothing}
use Rattle.query.specs.declared.test.Test.{Test}
use Rattle.query.specs.declared.test.Test.TheVariants as test
use Rattle.query.specs.declared.test.Literal.{Literal}
use Rattle.query.specs.declared.test.Operand.{Operand}
use Rattle.query.specs.declared.test.Operand.TheVariants as operand
use Rattle.query.specs.declared.test.Comparison.{Comparison}
use Rattle.query.proofs.Lists.{Halves, Splits, Turns}
use Rattle.query.proofs.PhrasesLemmas.{comparison_sound, comparison_complete}

-- two words that differ
pub words_differ : (v w : List ℕ) (xs ys : List Token) → bytes_eq v w ≡ false → Word v ∷ xs ≡ Word w ∷ ys → ⊥
words_differ v w xs ys differ e =
    let same : v ≡ w = cc in
    let both : true ≡ false = sym ((bytes_eq-Decides v w).1 same) ∙ differ in
    cc

pub marked : (mark : Token) (us vs : List Token) → us ≡ mark ∷ vs → Marked mark us true vs
marked mark us vs e = record {
  spells = subst (λ v. SpellsMark mark v true vs) (sym e) with;
  only = λ s r h other. inside h e other;
} where
  inside : {ws r : List Token} {s : Bool} → SpellsMark mark ws s r → ws ≡ mark ∷ vs → BeginsNot mark r → (s ≡ true) × (r ≡ vs)
  inside without f other = absurd (other vs f)
  inside with f other = (refl, cc)

pub unmarked : (mark : Token) (us : List Token) → BeginsNot mark us → Marked mark us false us
unmarked mark us absent = record {
  spells = without;
  only = λ s r h other. inside h absent;
} where
  inside : {ws r : List Token} {s : Bool} → SpellsMark mark ws s r → BeginsNot mark ws → (s ≡ false) × (r ≡ ws)
  inside without f = (refl, refl)
  inside (with {rest = rest}) f = absurd (f rest refl)

not_null : (r : List Token) → BeginsNot NOT (NULL ∷ r)
not_null r rest e = let bad : NULL ≡ NOT = cc in cc

no_literal : (ts : List Token) → begins_leaf ts ≡ true → begins_literal ts ≡ true → ⊥
no_literal (Word w ∷ ts) a b = let bad : false ≡ true = b in cc
no_literal ts a b = let bad : false ≡ true = a in cc

module _ {C : Type 0} where
  module _ (a : Operand C) (us : List Token) where
    -- IS, and what follows it
    module _ (not : Bool) (vs : List Token) (m : Marked NOT us not vs) where
      pub null_found : (rest : List Token) → vs ≡ NULL ∷ rest → Found (NullAfter a us) (test.IsNull a not) rest
      null_found rest e = record {
        is = null (subst (SpellsNot us not) e m.spells);
        only = λ t r s. inside s;
      } where
        inside : {r : List Token} {t : Test C} → NullAfter a us t r → (t ≡ test.IsNull a not) × (r ≡ rest)
        inside {r = r} (null {not = n} h) =
            let same = m.only n (NULL ∷ r) h (not_null r) in
            (ap (test.IsNull a) same.0, let both : NULL ∷ r ≡ NULL ∷ rest = same.1 ∙ e in cc)

      pub null_nothing : BeginsNot NULL vs → Nothing (NullAfter a us)
      null_nothing other = record { none = λ t r s. inside s } where
        inside : {r : List Token} {t : Test C} → NullAfter a us t r → ⊥
        inside {r = r} (null {not = n} h) = other r (sym (m.only n (NULL ∷ r) h (not_null r)).1)

module _ {C : Type 0} {Leaf : List Token → C → List Token → Type 0} where
  module _ (a : Operand C) (us : List Token) where
    -- BETWEEN and IN
    module _ (not : Bool) where
      pub range_split : (more : List Token) → us ≡ BETWEEN ∷ more → Splits (RangeAfter Leaf a not us) (λ l r. SpellsOperand Leaf more l (AND ∷ r)) (λ _ vs. Starts (SpellsOperand Leaf) Any vs) (λ low high. test.Between a low high not)
      range_split more e = record {
        to = λ low vs high r l h. subst (λ v. RangeAfter Leaf a not v (test.Between a low high not) r) (sym e) (range l h.spells);
        from = λ t r s. inside s e;
      } where
        inside : {ws r : List Token} {t : Test C} → RangeAfter Leaf a not ws t r → ws ≡ BETWEEN ∷ more → Halves (λ l v. SpellsOperand Leaf more l (AND ∷ v)) (λ _ vs. Starts (SpellsOperand Leaf) Any vs) (λ low high. test.Between a low high not) t r
        inside (range {us = ws} {vs = vs} {low = low} {high = high} l h) f =
            let same : ws ≡ more = cc in
            record { first = low; behind = vs; second = high; is = refl; starts = subst (λ v. SpellsOperand Leaf v low (AND ∷ vs)) same l; follows = record { spells = h; apart = tt } }
        inside (list h) f = absurd (let bad : IN ≡ BETWEEN = cc in cc)

      pub range_list : (more : List Token) → us ≡ IN ∷ lparen ∷ more → Turns (RangeAfter Leaf a not us) (λ ls r. Separated comma SpellsLiteral more ls (rparen ∷ r)) (λ ls. test.In a ls not)
      range_list more e = record {
        to = λ ls r h. subst (λ v. RangeAfter Leaf a not v (test.In a ls not) r) (sym e) (list h);
        from = λ t r s. inside s e;
      } where
        inside : {ws r : List Token} {t : Test C} → RangeAfter Leaf a not ws t r → ws ≡ IN ∷ lparen ∷ more → (ls : List Literal) × (t ≡ test.In a ls not) × Separated comma SpellsLiteral more ls (rparen ∷ r)
        inside (range h k) f = absurd (let bad : BETWEEN ≡ IN = cc in cc)
        inside {r = r} (list {us = ws} {ls = ls} h) f = let same : ws ≡ more = cc in (ls, refl, subst (λ v. Separated comma SpellsLiteral v ls (rparen ∷ r)) same h)

      pub range_nothing : BeginsNot BETWEEN us → BeginsNotCall IN us → Nothing (RangeAfter Leaf a not us)
      range_nothing b i = record { none = λ t r s. inside s b i } where
        inside : {ws r : List Token} {t : Test C} → RangeAfter Leaf a not ws t r → BeginsNot BETWEEN ws → BeginsNotCall IN ws → ⊥
        inside (range {us = ws} h k) f g = f ws refl
        inside (list {us = ws} h) f g = g ws refl

    -- what follows the first operand
    range_word : {ws r : List Token} {t : Test C} {not : Bool} → RangeAfter Leaf a not ws t r → (comparison_at ws ≡ None) × BeginsNot IS ws × BeginsNot NOT ws
    range_word (range {us = xs} h k) = (refl, (λ r e. words_differ (codes "BETWEEN") (codes "IS") xs r refl e), (λ r e. words_differ (codes "BETWEEN") (codes "NOT") xs r refl e))
    range_word (list {us = xs} h) = (refl, (λ r e. words_differ (codes "IN") (codes "IS") (lparen ∷ xs) r refl e), (λ r e. words_differ (codes "IN") (codes "NOT") (lparen ∷ xs) r refl e))

    pub test_compare : (c : Comparison) (vs : List Token) → comparison_at us ≡ Some (c, vs) → Turns (TestAfter Leaf a us) (Starts (SpellsOperand Leaf) Any vs) (λ b. test.Compare a c b)
    test_compare c vs e = record {
      to = λ b r h. after_compare (comparison_sound us c vs e) h.spells;
      from = λ t r s. inside s e;
    } where
      inside : {ws r : List Token} {t : Test C} → TestAfter Leaf a ws t r → comparison_at ws ≡ Some (c, vs) → (b : Operand C) × (t ≡ test.Compare a c b) × Starts (SpellsOperand Leaf) Any vs b r
      inside {r = r} (after_compare {vs = xs} {b = b} {c = d} k h) f =
          let parts = some_pair_parts d c xs vs (sym (comparison_complete k) ∙ f) in
          (b, ap (λ x. test.Compare a x b) parts.0, record { spells = subst (λ v. SpellsOperand Leaf v b r) parts.1 h; apart = tt })
      inside (after_is h) f = absurd (none-some (c, vs) f)
      inside (after_not without h) f = absurd (none-some (c, vs) (sym (range_word h).0 ∙ f))
      inside (after_not with h) f = absurd (none-some (c, vs) f)

    pub test_is : (more : List Token) → us ≡ IS ∷ more → Turns (TestAfter Leaf a us) (NullAfter a more) (λ t. t)
    test_is more e = record {
      to = λ t r h. subst (λ v. TestAfter Leaf a v t r) (sym e) (after_is h);
      from = λ t r s. (t, refl, inside s e);
    } where
      inside : {ws r : List Token} {t : Test C} → TestAfter Leaf a ws t r → ws ≡ IS ∷ more → NullAfter a more t r
      inside (after_compare {vs = xs} {c = c} k h) f = absurd (none-some (c, xs) (sym (ap comparison_at f) ∙ comparison_complete k))
      inside {r = r} {t = t} (after_is {us = ws} h) f = let same : ws ≡ more = cc in subst (λ v. NullAfter a v t r) same h
      inside (after_not without h) f = absurd ((range_word h).1 more f)
      inside (after_not with h) f = absurd (let bad : NOT ≡ IS = cc in cc)

    pub test_range : comparison_at us ≡ None → BeginsNot IS us → (not : Bool) (vs : List Token) → Marked NOT us not vs → Turns (TestAfter Leaf a us) (RangeAfter Leaf a not vs) (λ t. t)
    test_range e other not vs m = record {
      to = λ t r h. after_not m.spells h;
      from = λ t r s. (t, refl, inside s e other m);
    } where
      inside : {ws r : List Token} {t : Test C} → TestAfter Leaf a ws t r → comparison_at ws ≡ None → BeginsNot IS ws → Marked NOT ws not vs → RangeAfter Leaf a not vs t r
      inside (after_compare {vs = xs} {c = c} k h) f g m' = absurd (none-some (c, xs) (sym f ∙ comparison_complete k))
      inside (after_is {us = ws} h) f g m' = absurd (g ws refl)
      inside {r = r} {t = t} (after_not {vs = xs} {not = n} k h) f g m' =
          let same = m'.only n xs k (range_word h).2 in
          subst (λ v. RangeAfter Leaf a not v t r) same.1 (subst (λ x. RangeAfter Leaf a x xs t r) same.0 h)

  -- a test is its first operand, and what follows it
  test_to : {ts us r : List Token} {a : Operand C} {t : Test C} → SpellsOperand Leaf ts a us → TestAfter Leaf a us t r → SpellsTest Leaf ts t r
  test_to o (after_compare k h) = compare o k h
  test_to o (after_is (null h)) = is_null o h
  test_to o (after_not k (range h i)) = between o k h i
  test_to o (after_not k (list h)) = among o k h

  pub test_split : (ts : List Token) → Splits (Starts (SpellsTest Leaf) Any ts) (Starts (SpellsOperand Leaf) Any ts) (TestAfter Leaf) (λ _ t. t)
  test_split ts = record {
    to = λ a us t r o h. record { spells = test_to o.spells h; apart = tt };
    from = λ t r s. inside s.spells;
  } where
    half : {us r : List Token} {a : Operand C} {t : Test C} → SpellsOperand Leaf ts a us → TestAfter Leaf a us t r → Halves (Starts (SpellsOperand Leaf) Any ts) (TestAfter Leaf) (λ _ t. t) t r
    half {us} {r} {a} {t} o h = record { first = a; behind = us; second = t; is = refl; starts = record { spells = o; apart = tt }; follows = h }

    inside : {r : List Token} {t : Test C} → SpellsTest Leaf ts t r → Halves (Starts (SpellsOperand Leaf) Any ts) (TestAfter Leaf) (λ _ t. t) t r
    inside (compare o k h) = half o (after_compare k h)
    inside (is_null o h) = half o (after_is (null h))
    inside (between o k h i) = half o (after_not k (range h i))
    inside (among o k h) = half o (after_not k (list h))

  -- no leaf begins so
  module _ (begins : (ts : List Token) (c : C) (rest : List Token) → Leaf ts c rest → begins_leaf ts ≡ true) where
    operand_head : {ts r : List Token} {a : Operand C} → SpellsOperand Leaf ts a r → ((more : List Token) → ts ≡ lparen ∷ more → ⊥) × ((more : List Token) → ts ≡ NOT ∷ more → ⊥)
    operand_head {ts} {r} (leaf_operand {c = c} h) =
        let starts = begins ts c r h in
        (λ more e. let bad : false ≡ true = sym (ap begins_leaf e) ∙ starts in cc, λ more e. let bad : false ≡ true = sym (ap begins_leaf e) ∙ starts in cc)
    operand_head (literal_operand (number {n = n})) = (λ more e. let bad : Number n ≡ lparen = cc in cc, λ more e. let bad : Number n ≡ NOT = cc in cc)
    operand_head (literal_operand (text {t = t})) = (λ more e. let bad : Quoted t ≡ lparen = cc in cc, λ more e. let bad : Quoted t ≡ NOT = cc in cc)

    -- a test begins with no "(" and not with NOT
    pub test_head : {ts r : List Token} {t : Test C} → SpellsTest Leaf ts t r → ((more : List Token) → ts ≡ lparen ∷ more → ⊥) × ((more : List Token) → ts ≡ NOT ∷ more → ⊥)
    test_head {ts} {r} {t} s = operand_head ((test_split ts).from t r (record { spells = s; apart = tt })).starts.spells

    -- an operand that begins with a literal is one, and an other is a leaf
    pub operand_literal : (ts : List Token) → begins_literal ts ≡ true → Turns (Starts (SpellsOperand Leaf) Any ts) (Starts SpellsLiteral Any ts) operand.Literal
    operand_literal ts is = record {
      to = λ l r h. record { spells = literal_operand h.spells; apart = tt };
      from = λ a r s. inside s.spells is;
    } where
      inside : {us r : List Token} {a : Operand C} → SpellsOperand Leaf us a r → begins_literal us ≡ true → (l : Literal) × (a ≡ operand.Literal l) × Starts SpellsLiteral Any us l r
      inside {us} {r} (leaf_operand {c = c} h) f = absurd (no_literal us (begins us c r h) f)
      inside (literal_operand {l = l} h) f = (l, refl, record { spells = h; apart = tt })

  pub operand_leaf : (ts : List Token) → begins_literal ts ≡ false → Turns (Starts (SpellsOperand Leaf) Any ts) (Starts Leaf Any ts) operand.Column
  operand_leaf ts other = record {
    to = λ c r h. record { spells = leaf_operand h.spells; apart = tt };
    from = λ a r s. inside s.spells other;
  } where
    inside : {us r : List Token} {a : Operand C} → SpellsOperand Leaf us a r → begins_literal us ≡ false → (c : C) × (a ≡ operand.Column c) × Starts Leaf Any us c r
    inside (leaf_operand {c = c} h) f = (c, refl, record { spells = h; apart = tt })
    inside (literal_operand number) f = absurd (let bad : true ≡ false = f in cc)
    inside (literal_operand text) f = absurd (let bad : true ≡ false = f in cc)
