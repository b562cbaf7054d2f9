use Rattle.std.proofs.Common.{◌≡◌, ◌++◌, take}
use Rattle.questions.specs.Questions.{one_line}
use Rattle.questions.proofs.table_text.push_one_line.Given as goal

abbrev pub invariant-loop-byte : goal.invariant-loop-byte
invariant-loop-byte l = l.script.items ≡ l.initial.script.items ++ one_line (take l.byte-index l.text)
