use Rattle.std.specs.Prelude.{string_bytes}
use Rattle.questions.proofs.QuestionsLemmas.{Written}
use Rattle.questions.proofs.table_text.table_line.Given as goal

abbrev pub invariant-loop-place : goal.invariant-loop-place
invariant-loop-place l = Written (string_bytes l.initial.line) l.key l.columns l.place (string_bytes l.line)
