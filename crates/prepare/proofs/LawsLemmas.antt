-- What is read back of records that were written.
use Rattle.std.proofs.Common.{refl, ap, ◌∙◌}
use Rattle.std.proofs.lemmas.List.Concat.{flat_map-cons}
use Rattle.std.specs.Prelude.{◌≡◌, ◌++◌, List, [], ◌∷◌, map}
use Rattle.csv.specs.Machine.{next_record}
use Rattle.csv.specs.Reading.{strip_bom}
use Rattle.csv.specs.Writing.{comma, default_writer, read_back, row_text}
use Rattle.csv.specs.declared.parser.State.TheVariants as st
use Rattle.csv.proofs.RoundTrip.{read-write}
use Rattle.records.specs.Records.{Fields, records_at, records_of}
use Rattle.prepare.specs.Parts.{text_of}
use Rattle.records.specs.Laws.{records_at-end, records_at-more}

read_all : (rows : List Fields) → records_at comma st.StartRecord (text_of rows) ≡ map read_back rows
unfolding next_record
read_all [] = records_at-end comma st.StartRecord [] refl
read_all (row ∷ rows) =
    ap (records_at comma st.StartRecord) (flat_map-cons (row_text default_writer) row rows)
    ∙ (records_at-more comma st.StartRecord (row_text default_writer row ++ text_of rows) (read_back row, st.StartRecord, text_of rows) refl (read-write row (text_of rows))).0
    ∙ ap (λ (rest : List Fields). read_back row ∷ rest) (read_all rows)

pub part_is_read_back : (rows : List Fields) → strip_bom (text_of rows) ≡ text_of rows → records_of comma (text_of rows) ≡ map read_back rows
part_is_read_back rows plain = ap (records_at comma st.StartRecord) plain ∙ read_all rows
