use Rattle.questions.specs.Proposals.{MadeOf}
use Rattle.questions.proofs.proposal.parts_of.Given as goal

abbrev pub invariant-loop-file : goal.invariant-loop-file
invariant-loop-file l = MadeOf l.fn.choice l.files l.file l.parts.items l.choice
