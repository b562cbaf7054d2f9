use Rattle.std.proofs.Common.{[], ◌∷◌, refl, arith}
use Rattle.std.specs.Prelude.{codes}
use Rattle.csv.specs.Machine.{next_record}
use Rattle.csv.specs.Reading.{records_from, strip_bom}
use Rattle.std.specs.Char.{encode_utf8}
use Rattle.std.specs.Fmt.{digits}
use Rattle.std.specs.Str.{chars, is_utf8}
use Rattle.cells.specs.Scanning.{mark_at, number_at, token_at, word_at}
use Rattle.cells.specs.SchemaReading.{definition_at}
use Rattle.script.specs.Output.{line_first, no_line, of_lines, text_of}
use Rattle.script.proofs.WorkedLemmas.{last, quiet, reported}
use Rattle.script.proofs.WorkedQueriesLemmas.{counts, rolls_up}
use Rattle.script.proofs.laws.worked_scripts.Goals as goal

pub returns-clause-empty : goal.returns-clause-empty
returns-clause-empty c = of_lines (omega arith) (omega arith) no_line

pub returns-clause-no_table : goal.returns-clause-no_table
unfolding digits is_utf8 chars encode_utf8
returns-clause-no_table c = of_lines (omega arith) (omega arith) (last _ _ _ _ _ refl)

pub returns-clause-capitals : goal.returns-clause-capitals
unfolding digits is_utf8 chars encode_utf8
returns-clause-capitals c = of_lines (omega arith) (omega arith) (last _ _ _ _ _ refl)

pub returns-clause-counted : goal.returns-clause-counted
unfolding digits is_utf8 chars encode_utf8 token_at word_at mark_at definition_at
returns-clause-counted c = of_lines (omega arith) (omega arith)
    (quiet _ _ _ _ _ _ refl (quiet _ _ _ _ _ _ refl (last _ _ _ _ _ (reported _ _ _ _ _ _ _ counts refl refl))))

pub returns-clause-replaced : goal.returns-clause-replaced
unfolding digits is_utf8 chars encode_utf8 token_at word_at mark_at definition_at next_record records_from strip_bom
returns-clause-replaced c = of_lines (omega arith) (omega arith)
    (quiet _ _ _ _ _ _ refl (quiet _ _ _ _ _ _ refl (quiet _ _ _ _ _ _ refl (quiet _ _ _ _ _ _ refl (quiet _ _ _ _ _ _ refl
    (line_first (text_of (codes "line 6 edition 1" ∷ codes "COUNT(*)" ∷ codes "2" ∷ [])) (text_of (codes "line 7 refused 7" ∷ []))
    (reported _ _ _ _ _ _ _ counts refl refl)
    (last _ _ _ _ _ refl)))))))

pub returns-clause-deleted : goal.returns-clause-deleted
unfolding digits is_utf8 chars encode_utf8 token_at word_at mark_at number_at definition_at next_record records_from strip_bom
returns-clause-deleted c = of_lines (omega arith) (omega arith)
    (quiet _ _ _ _ _ _ refl (quiet _ _ _ _ _ _ refl (quiet _ _ _ _ _ _ refl (quiet _ _ _ _ _ _ refl
    (last _ _ _ _ _ (reported _ _ _ _ _ _ _ counts refl refl))))))

pub returns-clause-rolled_up : goal.returns-clause-rolled_up
unfolding digits is_utf8 chars encode_utf8 token_at word_at mark_at definition_at next_record records_from strip_bom
returns-clause-rolled_up c = of_lines (omega arith) (omega arith)
    (quiet _ _ _ _ _ _ refl (quiet _ _ _ _ _ _ refl (quiet _ _ _ _ _ _ refl (quiet _ _ _ _ _ _ refl (quiet _ _ _ _ _ _ refl
    (last _ _ _ _ _ (reported _ _ _ _ _ _ _ rolls_up refl refl)))))))
