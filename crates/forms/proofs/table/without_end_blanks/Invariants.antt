use Rattle.std.proofs.Common.{◌≡◌, length}
use Rattle.forms.specs.Tables.{without_end_blanks}
use Rattle.forms.proofs.table.without_end_blanks.Given as goal

-- what was left out is blank
abbrev pub invariant-loop-last : goal.invariant-loop-last
invariant-loop-last l = without_end_blanks l.line ≡ without_end_blanks l.rest

abbrev pub decreases-loop-last : goal.decreases-loop-last
decreases-loop-last l = length l.rest
