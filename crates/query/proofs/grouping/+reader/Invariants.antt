use Rattle.std.proofs.Common.{◌+◌, ◌*◌, ◌≤◌, length}
use Rattle.query.specs.Grammar.{SpellsElement, comma}
use Rattle.query.specs.Reading.{Any}
use Rattle.query.proofs.Lists.{Kept}
use Rattle.query.proofs.grouping.+reader.Given as goal

abbrev pub decreases-element : goal.decreases-element
decreases-element l = 3 * length l.tokens.now

abbrev pub decreases-elements : goal.decreases-elements
decreases-elements l = 3 * length l.tokens.now + 1

abbrev pub decreases-sets_element : goal.decreases-sets_element
decreases-sets_element l = 3 * length l.tokens.now + 2

abbrev pub invariant-elements-loop-found : goal.invariant-elements-loop-found
invariant-elements-loop-found l = record { kept : Kept comma SpellsElement Any (λ us. tt) l.tokens l.found.items l.rest; shorter : length l.rest ≤ length l.tokens }

abbrev pub decreases-elements-loop-found : goal.decreases-elements-loop-found
decreases-elements-loop-found l = length l.rest
