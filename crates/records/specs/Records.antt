-- The records of a text (RFC 4180, section 2), whose fields may stand apart by another byte than a comma.
use Rattle.std.specs.Prelude.{◌≡◌, ◌+◌, ℕ, List, Some, [], false, length, true, unwrap_or}
use Rattle.std.specs.Borrow.{Bor}
use Rattle.csv.specs.Machine.{ends_at_end}
use Rattle.csv.specs.Reading.{Ready, default_config, has_failed, is_flexible, reader_config, reader_state, reader_trim, records, records_from, source_of, strip_bom}
use Rattle.csv.specs.declared.parser.Config.{Config}
use Rattle.csv.specs.declared.parser.State.{State}
use Rattle.csv.specs.declared.reader.Reader.{Reader}
use Rattle.csv.specs.declared.reader.Trim.TheVariants as trim

-- the fields of a record
abbrev pub Fields : Type 0
Fields = List (List ℕ)

-- a reader of CSV whose fields stand apart by this byte
abbrev pub config_of : ℕ → Config
config_of delimiter = record default_config { delimiter = delimiter }

-- the records of a text; a byte order mark at its start is passed over
abbrev pub records_of : ℕ → List ℕ → List Fields
records_of delimiter bytes = records (config_of delimiter) (strip_bom bytes)

-- the bytes that a reader has left
abbrev pub bytes_left : Reader (Bor (List ℕ)) → List ℕ
bytes_left r = unwrap_or (source_of (λ s. Some s.now) r) []

-- the records of these bytes from a state on
abbrev pub records_at : ℕ → State → List ℕ → List Fields
records_at delimiter s bytes = records_from (config_of delimiter) (length bytes + 1) s bytes

-- the records that a reader has left
abbrev pub records_left : ℕ → Reader (Bor (List ℕ)) → List Fields
records_left delimiter r = records_at delimiter (reader_state r) (bytes_left r)

-- the reader stands before a record, with these settings
pub record IsReading (delimiter : ℕ) (r : Reader (Bor (List ℕ))) : Type 0 where
  pub trim : reader_trim r ≡ trim.None
  pub ready : Ready r
  pub config : reader_config r ≡ config_of delimiter
  pub flexible : is_flexible r ≡ true
  pub state : ends_at_end (reader_state r) ≡ false
  pub goes : has_failed r ≡ false
