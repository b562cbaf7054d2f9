use Rattle.std.proofs.Common.{take}
use Rattle.std.specs.Prelude.{None}
use Rattle.columns.specs.Coding.{Puts}
use Rattle.columns.specs.Columns.{decoded}
use Rattle.columns.proofs.code_column.CodeColumn.append_numbers.Given as goal

abbrev pub invariant-loop-code : goal.invariant-loop-code
invariant-loop-code l = Puts (decoded None (take l.code-index l.codes)) l.fn.self l.self
