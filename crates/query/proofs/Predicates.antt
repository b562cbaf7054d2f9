-- Predicates: what each of their rules turns into.
use Rattle.std.proofs.Common.{◌≡◌, true, List, [], ◌∷◌, refl, sym, ap, ◌∙◌, subst}
use Rattle.cells.specs.declared.token.Token.{Token}
use Rattle.query.specs.Trees.{PredicateTree, Or, And, Not, Holds, PredicateTrees, MorePredicates, predicates_of, all_of, any_of}
use Rattle.query.specs.Grammar.{Separated, last, next, SpellsTest, SpellsPredicate, one_term, or, SpellsTerms, last_term, next_term, SpellsTerm, one_factor, and, SpellsFactors, last_factor, next_factor, SpellsFactor, plain, not, SpellsPrimary, parens, tested, lparen, rparen, AND, OR, NOT}
use Rattle.query.specs.Leaves.{begins_leaf}
use Rattle.query.specs.Reading.{AfterAnd, AfterOr, Any, BeginsNot, Starts}
use Rattle.query.specs.declared.test.Test.{Test}
use Rattle.query.proofs.Lists.{Turns}
use Rattle.query.proofs.TestsLemmas.{test_head}

pub or_ends_and : (us : List Token) → AfterAnd (OR ∷ us)
or_ends_and us = record { no_more = λ r e. let bad : OR ≡ AND = cc in cc; apart = tt }

pub paren_ends : (r : List Token) → AfterOr (rparen ∷ r)
paren_ends r = record { no_more = λ us e. let bad : rparen ≡ OR = cc in cc; apart = record { no_more = λ us e. let bad : rparen ≡ AND = cc in cc; apart = tt } }

module _ {C : Type 0} {Leaf : List Token → C → List Token → Type 0} where
  -- ---- primaries
  pub primary_parens : (begins : (ts : List Token) (c : C) (rest : List Token) → Leaf ts c rest → begins_leaf ts ≡ true) → (ts more : List Token) → ts ≡ lparen ∷ more → Turns (Starts (SpellsPrimary Leaf) Any ts) (λ p r. SpellsPredicate Leaf more p (rparen ∷ r)) (λ p. p)
  primary_parens begins ts more e = record {
    to = λ p r h. record { spells = subst (λ v. SpellsPrimary Leaf v p r) (sym e) (parens h); apart = tt };
    from = λ p r s. (p, refl, inside s.spells e);
  } where
    inside : {us r : List Token} {p : PredicateTree (Test C)} → SpellsPrimary Leaf us p r → us ≡ lparen ∷ more → SpellsPredicate Leaf more p (rparen ∷ r)
    inside {r = r} {p = p} (parens {ts = us} h) f = let same : us ≡ more = cc in subst (λ v. SpellsPredicate Leaf v p (rparen ∷ r)) same h
    inside (tested h) f = absurd ((test_head begins h).0 more f)

  pub primary_test : (ts : List Token) → BeginsNot lparen ts → Turns (Starts (SpellsPrimary Leaf) Any ts) (Starts (SpellsTest Leaf) Any ts) Holds
  primary_test ts other = record {
    to = λ t r h. record { spells = tested h.spells; apart = tt };
    from = λ p r s. inside s.spells other;
  } where
    inside : {us r : List Token} {p : PredicateTree (Test C)} → SpellsPrimary Leaf us p r → BeginsNot lparen us → (t : Test C) × (p ≡ Holds t) × Starts (SpellsTest Leaf) Any us t r
    inside (parens {ts = us} h) f = absurd (f us refl)
    inside (tested {t = t} h) f = (t, refl, record { spells = h; apart = tt })

  -- a primary does not begin with NOT
  primary_not : (begins : (ts : List Token) (c : C) (rest : List Token) → Leaf ts c rest → begins_leaf ts ≡ true) → {ts r : List Token} {p : PredicateTree (Test C)} → SpellsPrimary Leaf ts p r → (more : List Token) → ts ≡ NOT ∷ more → ⊥
  primary_not begins (parens h) more e = let bad : lparen ≡ NOT = cc in cc
  primary_not begins (tested h) more e = (test_head begins h).1 more e

  -- ---- factors
  pub factor_not : (begins : (ts : List Token) (c : C) (rest : List Token) → Leaf ts c rest → begins_leaf ts ≡ true) → (ts more : List Token) → ts ≡ NOT ∷ more → Turns (Starts (SpellsFactor Leaf) Any ts) (Starts (SpellsPrimary Leaf) Any more) Not
  factor_not begins ts more e = record {
    to = λ p r h. record { spells = subst (λ v. SpellsFactor Leaf v (Not p) r) (sym e) (not h.spells); apart = tt };
    from = λ p r s. inside s.spells e;
  } where
    inside : {us r : List Token} {p : PredicateTree (Test C)} → SpellsFactor Leaf us p r → us ≡ NOT ∷ more → (q : PredicateTree (Test C)) × (p ≡ Not q) × Starts (SpellsPrimary Leaf) Any more q r
    inside (plain h) f = absurd (primary_not begins h more f)
    inside {r = r} (not {ts = us} {p = q} h) f = let same : us ≡ more = cc in (q, refl, record { spells = subst (λ v. SpellsPrimary Leaf v q r) same h; apart = tt })

  pub factor_plain : (ts : List Token) → BeginsNot NOT ts → Turns (Starts (SpellsFactor Leaf) Any ts) (Starts (SpellsPrimary Leaf) Any ts) (λ p. p)
  factor_plain ts other = record {
    to = λ p r h. record { spells = plain h.spells; apart = tt };
    from = λ p r s. (p, refl, inside s.spells other);
  } where
    inside : {us r : List Token} {p : PredicateTree (Test C)} → SpellsFactor Leaf us p r → BeginsNot NOT us → Starts (SpellsPrimary Leaf) Any us p r
    inside (plain h) f = record { spells = h; apart = tt }
    inside (not {ts = us} h) f = absurd (f us refl)

  -- ---- terms
  to_factors : {ts r : List Token} {ps : List (PredicateTree (Test C))} → Separated AND (SpellsFactor Leaf) ts ps r → SpellsFactors Leaf ts (predicates_of ps) r
  to_factors (last h) = last_factor h
  to_factors (next h more) = next_factor h (to_factors more)

  from_factors : {ts r : List Token} {ps : PredicateTrees (Test C)} → SpellsFactors Leaf ts ps r → (qs : List (PredicateTree (Test C))) × (ps ≡ predicates_of qs) × Separated AND (SpellsFactor Leaf) ts qs r
  from_factors (last_factor {p = p} h) = (p ∷ [], refl, last h)
  from_factors (next_factor {p = p} h more) = let m = from_factors more in (p ∷ m.0, ap (MorePredicates p) m.1, next h m.2)

  -- several are no one alone
  all_of_more : {ts r : List Token} {qs : List (PredicateTree (Test C))} (p : PredicateTree (Test C)) → Separated AND (SpellsFactor Leaf) ts qs r → all_of (p ∷ qs) ≡ And (MorePredicates p (predicates_of qs))
  all_of_more p (last h) = refl
  all_of_more p (next h more) = refl

  all_of_spelt : {ts us r : List Token} {p : PredicateTree (Test C)} {qs : List (PredicateTree (Test C))} → SpellsFactor Leaf ts p (AND ∷ us) → Separated AND (SpellsFactor Leaf) us qs r → SpellsTerm Leaf ts (all_of (p ∷ qs)) r
  all_of_spelt {ts} {r = r} {p = p} h more = subst (λ x. SpellsTerm Leaf ts x r) (sym (all_of_more p more)) (and h (to_factors more))

  pub term_factors : (ts : List Token) → Turns (Starts (SpellsTerm Leaf) AfterAnd ts) (Starts (Separated AND (SpellsFactor Leaf)) AfterAnd ts) all_of
  term_factors ts = record {
    to = λ ps r h. record { spells = there h.spells; apart = h.apart };
    from = λ p r s. inside s.spells s.apart;
  } where
    there : {us r : List Token} {ps : List (PredicateTree (Test C))} → Separated AND (SpellsFactor Leaf) us ps r → SpellsTerm Leaf us (all_of ps) r
    there (last h) = one_factor h
    there (next h more) = all_of_spelt h more

    inside : {us r : List Token} {p : PredicateTree (Test C)} → SpellsTerm Leaf us p r → AfterAnd r → (qs : List (PredicateTree (Test C))) × (p ≡ all_of qs) × Starts (Separated AND (SpellsFactor Leaf)) AfterAnd us qs r
    inside (one_factor {p = p} h) f = (p ∷ [], refl, record { spells = last h; apart = f })
    inside (and {p = p} h more) f =
        let m = from_factors more in
        (p ∷ m.0, ap (λ x. And (MorePredicates p x)) m.1 ∙ sym (all_of_more p m.2), record { spells = next h m.2; apart = f })

  -- ---- predicates
  to_terms : {ts r : List Token} {ps : List (PredicateTree (Test C))} → Separated OR (SpellsTerm Leaf) ts ps r → SpellsTerms Leaf ts (predicates_of ps) r
  to_terms (last h) = last_term h
  to_terms (next h more) = next_term h (to_terms more)

  from_terms : {ts r : List Token} {ps : PredicateTrees (Test C)} → SpellsTerms Leaf ts ps r → (qs : List (PredicateTree (Test C))) × (ps ≡ predicates_of qs) × Separated OR (SpellsTerm Leaf) ts qs r
  from_terms (last_term {p = p} h) = (p ∷ [], refl, last h)
  from_terms (next_term {p = p} h more) = let m = from_terms more in (p ∷ m.0, ap (MorePredicates p) m.1, next h m.2)

  -- several are no one alone
  any_of_more : {ts r : List Token} {qs : List (PredicateTree (Test C))} (p : PredicateTree (Test C)) → Separated OR (SpellsTerm Leaf) ts qs r → any_of (p ∷ qs) ≡ Or (MorePredicates p (predicates_of qs))
  any_of_more p (last h) = refl
  any_of_more p (next h more) = refl

  any_of_spelt : {ts us r : List Token} {p : PredicateTree (Test C)} {qs : List (PredicateTree (Test C))} → SpellsTerm Leaf ts p (OR ∷ us) → Separated OR (SpellsTerm Leaf) us qs r → SpellsPredicate Leaf ts (any_of (p ∷ qs)) r
  any_of_spelt {ts} {r = r} {p = p} h more = subst (λ x. SpellsPredicate Leaf ts x r) (sym (any_of_more p more)) (or h (to_terms more))

  pub predicate_terms : (ts : List Token) → Turns (Starts (SpellsPredicate Leaf) AfterOr ts) (Starts (Separated OR (SpellsTerm Leaf)) AfterOr ts) any_of
  predicate_terms ts = record {
    to = λ ps r h. record { spells = there h.spells; apart = h.apart };
    from = λ p r s. inside s.spells s.apart;
  } where
    there : {us r : List Token} {ps : List (PredicateTree (Test C))} → Separated OR (SpellsTerm Leaf) us ps r → SpellsPredicate Leaf us (any_of ps) r
    there (last h) = one_term h
    there (next h more) = any_of_spelt h more

    inside : {us r : List Token} {p : PredicateTree (Test C)} → SpellsPredicate Leaf us p r → AfterOr r → (qs : List (PredicateTree (Test C))) × (p ≡ any_of qs) × Starts (Separated OR (SpellsTerm Leaf)) AfterOr us qs r
    inside (one_term {p = p} h) f = (p ∷ [], refl, record { spells = last h; apart = f })
    inside (or {p = p} h more) f =
        let m = from_terms more in
        (p ∷ m.0, ap (λ x. Or (MorePredicates p x)) m.1 ∙ sym (any_of_more p m.2), record { spells = next h m.2; apart = f })
