use Rattle.std.proofs.Common.{◌+◌, ◌*◌, ◌≤◌, length}
use Rattle.query.specs.Grammar.{AND, OR, SpellsTerm, SpellsFactor}
use Rattle.query.specs.Reading.{AfterAnd, Any}
use Rattle.query.proofs.Lists.{Kept}
use Rattle.query.proofs.Predicates.{or_ends_and}
use Rattle.query.proofs.conditions.+reader.Given as goal

abbrev pub decreases-primary : goal.decreases-primary
decreases-primary g l = 5 * length l.tokens.now + 0

abbrev pub decreases-factor : goal.decreases-factor
decreases-factor g l = 5 * length l.tokens.now + 1

abbrev pub decreases-term : goal.decreases-term
decreases-term g l = 5 * length l.tokens.now + 2

abbrev pub decreases-predicate : goal.decreases-predicate
decreases-predicate g l = 5 * length l.tokens.now + 3

abbrev pub decreases-predicate_in : goal.decreases-predicate_in
decreases-predicate_in g l = 5 * length l.tokens.now + 4

abbrev pub invariant-term-loop-factors : goal.invariant-term-loop-factors
invariant-term-loop-factors g l = record { kept : Kept AND (SpellsFactor g.C.Phrase.spells) Any (λ us. tt) l.tokens l.factors.items l.rest; shorter : length l.rest ≤ length l.tokens }

abbrev pub decreases-term-loop-factors : goal.decreases-term-loop-factors
decreases-term-loop-factors g l = length l.rest

abbrev pub invariant-predicate-loop-terms : goal.invariant-predicate-loop-terms
invariant-predicate-loop-terms g l = record { kept : Kept OR (SpellsTerm g.C.Phrase.spells) AfterAnd or_ends_and l.tokens l.terms.items l.rest; shorter : length l.rest ≤ length l.tokens }

abbrev pub decreases-predicate-loop-terms : goal.decreases-predicate-loop-terms
decreases-predicate-loop-terms g l = length l.rest
