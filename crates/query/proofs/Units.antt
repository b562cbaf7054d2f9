-- Units.
use Rattle.std.proofs.Common.{◌≡◌, ℕ, true, false, List, [], ◌∷◌, refl, sym, ap, ◌∙◌, subst}
use Rattle.cells.specs.Schemas.{is_reserved}
use Rattle.cells.specs.declared.token.Token.{Token}
use Rattle.cells.specs.declared.token.Token.TheVariants.{Word}
use Rattle.query.specs.Grammar.{Separated, last, next, SpellsName, name, SpellsUnit, one, several, lparen, rparen, comma}
use Rattle.query.specs.Reading.{Any, BeginsNot, Starts}
use Rattle.query.proofs.Lists.{Turns}

-- a name is no reserved word
pub reserved_name : (n w : List ℕ) → is_reserved w ≡ true → is_reserved n ≡ false → Word n ≡ Word w → ⊥
reserved_name n w is free e = let same : n ≡ w = cc in let both : true ≡ false = sym is ∙ ap is_reserved (sym same) ∙ free in cc

pub unit_several : (ts more : List Token) → ts ≡ lparen ∷ more → Turns (Starts SpellsUnit Any ts) (λ ns r. Separated comma SpellsName more ns (rparen ∷ r)) (λ ns. ns)
unit_several ts more e = record {
  to = λ ns r h. record { spells = subst (λ v. SpellsUnit v ns r) (sym e) (several h); apart = tt };
  from = λ u r s. inside s.spells e;
} where
  inside : {us r : List Token} {u : List (List ℕ)} → SpellsUnit us u r → us ≡ lparen ∷ more → (ns : List (List ℕ)) × (u ≡ ns) × Separated comma SpellsName more ns (rparen ∷ r)
  inside (one (name {n = n} free)) f = absurd (let bad : Word n ≡ lparen = cc in cc)
  inside {r = r} (several {ts = us} {ns = ns} h) f = let same : us ≡ more = cc in (ns, refl, subst (λ v. Separated comma SpellsName v ns (rparen ∷ r)) same h)

pub unit_one : (ts : List Token) → BeginsNot lparen ts → Turns (Starts SpellsUnit Any ts) (Starts SpellsName Any ts) (λ n. n ∷ [])
unit_one ts other = record {
  to = λ n r h. record { spells = one h.spells; apart = tt };
  from = λ u r s. inside s.spells other;
} where
  inside : {us r : List Token} {u : List (List ℕ)} → SpellsUnit us u r → BeginsNot lparen us → (n : List ℕ) × (u ≡ n ∷ []) × Starts SpellsName Any us n r
  inside (one {n = n} h) f = (n, refl, record { spells = h; apart = tt })
  inside (several {ts = us} h) f = absurd (f us refl)

-- a unit begins with no reserved word
pub unit_word : {ts r : List Token} {u : List (List ℕ)} → SpellsUnit ts u r → (w : List ℕ) (more : List Token) → is_reserved w ≡ true → ts ≡ Word w ∷ more → ⊥
unit_word (one (name {n = n} free)) w more is e = reserved_name n w is free cc
unit_word (several h) w more is e = let bad : lparen ≡ Word w = cc in cc

-- names do not begin with ")"
pub names_head : {ts r : List Token} {ns : List (List ℕ)} → Separated comma SpellsName ts ns r → (more : List Token) → ts ≡ rparen ∷ more → ⊥
names_head (last (name {n = n} free)) more e = let bad : Word n ≡ rparen = cc in cc
names_head (next (name {n = n} free) h) more e = let bad : Word n ≡ rparen = cc in cc
