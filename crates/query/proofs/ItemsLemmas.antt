-- GROUPING in a select list.
use Rattle.std.proofs.Common.{◌≡◌, ℕ, List, ◌∷◌, refl, sym, subst}
use Rattle.std.specs.Prelude.{codes}
use Rattle.cells.specs.declared.token.Token.{Token}
use Rattle.query.specs.Grammar.{COUNT, GROUPING, MAX, MIN, SUM, Separated, SpellsItem, SpellsName, column, comma, count, count_distinct, count_rows, grouping, lparen, max, min, rparen, sum}
use Rattle.query.specs.Reading.{Any, Starts}
use Rattle.query.specs.declared.item.Item.{Item}
use Rattle.query.specs.declared.item.Item.TheVariants as item
use Rattle.query.proofs.Lists.{Turns}
use Rattle.query.proofs.Units.{reserved_name}

pub item_grouping : (ts more : List Token) → ts ≡ GROUPING ∷ lparen ∷ more → Turns (Starts SpellsItem Any ts) (λ ns r. Separated comma SpellsName more ns (rparen ∷ r)) item.Grouping
item_grouping ts more e = record {
  to = λ ns r h. record { spells = subst (λ v. SpellsItem v (item.Grouping ns) r) (sym e) (grouping h); apart = tt };
  from = λ i r s. inside s.spells e;
} where
  inside : {us r : List Token} {i : Item (List ℕ)} → SpellsItem us i r → us ≡ GROUPING ∷ lparen ∷ more → (ns : List (List ℕ)) × (i ≡ item.Grouping ns) × Separated comma SpellsName more ns (rparen ∷ r)
  inside (column {n = n} free) f = absurd (reserved_name n (codes "GROUPING") refl free cc)
  inside {r = r} (grouping {ts = us} {ns = ns} h) f = let same : us ≡ more = cc in (ns, refl, subst (λ v. Separated comma SpellsName v ns (rparen ∷ r)) same h)
  inside count_rows f = absurd (let bad : COUNT ≡ GROUPING = cc in cc)
  inside (count free) f = absurd (let bad : COUNT ≡ GROUPING = cc in cc)
  inside (count_distinct free) f = absurd (let bad : COUNT ≡ GROUPING = cc in cc)
  inside (sum free) f = absurd (let bad : SUM ≡ GROUPING = cc in cc)
  inside (min free) f = absurd (let bad : MIN ≡ GROUPING = cc in cc)
  inside (max free) f = absurd (let bad : MAX ≡ GROUPING = cc in cc)
