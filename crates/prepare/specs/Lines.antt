-- A writer of records into memory.
use Rattle.std.specs.Prelude.{◌≡◌, ℕ, List, [], Some, Vec, false, unwrap_or}
use Rattle.std.specs.declared.alloc.Global.{Global}
use Rattle.csv.specs.Writing.{default_writer, fields_written, has_written, text_written, writer_setup}
use Rattle.csv.specs.declared.writer.Writer.{Writer}

-- what it wrote
abbrev pub written : Writer (Vec ℕ Global) → List ℕ
written w = unwrap_or (text_written (λ v. Some v.items) w) []

-- it stands between two records
pub record IsBetween (w : Writer (Vec ℕ Global)) : Type 0 where
  pub setup : writer_setup w ≡ default_writer
  pub fields : fields_written w ≡ 0
  pub clean : has_written w ≡ false
