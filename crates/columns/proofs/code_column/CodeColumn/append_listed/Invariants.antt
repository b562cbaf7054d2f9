use Rattle.std.proofs.Common.{◌≡◌, ◌++◌, take}
use Rattle.std.specs.Prelude.{None}
use Rattle.columns.proofs.ColumnsLemmas.{recoded_by}
use Rattle.columns.proofs.code_column.CodeColumn.append_listed.Given as goal

abbrev pub invariant-loop-code : goal.invariant-loop-code
invariant-loop-code l = l.self ≡ record { cells = None; by_row = l.initial.self.by_row ++ recoded_by l.recoded.items (take l.code-index l.codes) }
