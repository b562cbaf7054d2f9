use Rattle.std.proofs.Common.{◌+◌, ◌-◌, length, string_bytes}
use Rattle.prepare.specs.Listed.{words_in}
use Rattle.questions.proofs.NumberingLemmas.{IsNumbering, total}
use Rattle.questions.proofs.proposal.free_name.Given as goal

abbrev pub invariant-loop-name : goal.invariant-loop-name
invariant-loop-name l = IsNumbering (words_in l.columns) (string_bytes l.name)

abbrev pub decreases-loop-name : goal.decreases-loop-name
decreases-loop-name l = total (words_in l.columns) + 1 - length (string_bytes l.name)
