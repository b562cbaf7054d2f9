use Rattle.std.proofs.Common.{take}
use Rattle.std.specs.Prelude.{[], None}
use Rattle.columns.specs.Coding.{Recode}
use Rattle.columns.specs.Columns.{decoded}
use Rattle.columns.proofs.code_column.CodeColumn.make_list.Given as goal

abbrev pub invariant-loop-code : goal.invariant-loop-code
invariant-loop-code l = Recode (take l.code-index (decoded None l.fn.self.by_row)) [] l.list l.codes.items
