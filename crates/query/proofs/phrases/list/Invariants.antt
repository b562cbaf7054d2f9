use Rattle.std.proofs.Common.{◌≤◌, length}
use Rattle.query.specs.Grammar.{comma}
use Rattle.query.specs.Reading.{Any}
use Rattle.query.proofs.Lists.{Kept}
use Rattle.query.proofs.phrases.list.Given as goal

abbrev pub invariant-loop-found : goal.invariant-loop-found
invariant-loop-found g l = record { kept : Kept comma g.P.Phrase.spells Any (λ us. tt) l.tokens l.found.items l.rest; shorter : length l.rest ≤ length l.tokens }

abbrev pub decreases-loop-found : goal.decreases-loop-found
decreases-loop-found g l = length l.rest
