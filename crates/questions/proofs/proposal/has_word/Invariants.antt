use Rattle.std.proofs.Common.{◌≡◌, drop}
use Rattle.questions.specs.Options.{is_one_of}
use Rattle.prepare.specs.Listed.{words_in}
use Rattle.questions.proofs.proposal.has_word.Given as goal

abbrev pub invariant-loop-column : goal.invariant-loop-column
invariant-loop-column l = is_one_of l.word (words_in (drop l.column-index l.columns)) ≡ is_one_of l.word (words_in l.columns)
