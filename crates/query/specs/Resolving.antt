-- Predicates by indexes: each leaf gives way to an index. S is what is known behind the leaves before it, on which its index may
-- rest; the leaves are met in the order of the text.
use Rattle.std.specs.Prelude.{ℕ}
use Rattle.std.specs.List.{fold}
use Rattle.query.specs.Names.{leaves_of, operand_leaves}
use Rattle.query.specs.Trees.{PredicateTree, Or, And, Not, Holds, PredicateTrees, NoPredicates, MorePredicates}
use Rattle.query.specs.declared.test.Operand.{Operand}
use Rattle.query.specs.declared.test.Operand.TheVariants as operand
use Rattle.query.specs.declared.test.Test.{Test}
use Rattle.query.specs.declared.test.Test.TheVariants.{Compare, IsNull, Between, In}

module _ {C S : Type 0} (index : S → C → ℕ) (after : S → C → S) where
  -- what is known behind an operand
  abbrev pub behind : S → Operand C → S
  behind s a = fold after s (operand_leaves a)

  abbrev pub resolved_operand : S → Operand C → Operand ℕ
  resolved_operand s (operand.Column c) = operand.Column (index s c)
  resolved_operand s (operand.Literal l) = operand.Literal l

  abbrev pub resolved_test : S → Test C → Test ℕ
  resolved_test s (Compare a c b) = Compare (resolved_operand s a) c (resolved_operand (behind s a) b)
  resolved_test s (IsNull a not) = IsNull (resolved_operand s a) not
  resolved_test s (Between a low high not) = Between (resolved_operand s a) (resolved_operand (behind s a) low) (resolved_operand (behind (behind s a) low) high) not
  resolved_test s (In a ls not) = In (resolved_operand s a) ls not

  abbrev mutual
    pub resolved : S → PredicateTree (Test C) → PredicateTree (Test ℕ)
    resolved s (Or ps) = Or (resolved_each s ps)
    resolved s (And ps) = And (resolved_each s ps)
    resolved s (Not p) = Not (resolved s p)
    resolved s (Holds t) = Holds (resolved_test s t)

    pub resolved_each : S → PredicateTrees (Test C) → PredicateTrees (Test ℕ)
    resolved_each s NoPredicates = NoPredicates
    resolved_each s (MorePredicates p ps) = MorePredicates (resolved s p) (resolved_each (fold after s (leaves_of p)) ps)
