use Rattle.std.proofs.Common.{refl, sym, ◌≡◌, ◌∙◌}
use Rattle.csv.specs.Records.{fields_of}
use Rattle.records.specs.Records.{records_left}
use Rattle.records.proofs.ReaderLemmas.{after_read}
use Rattle.records.proofs.reader.Records.next.Goals as goal

pub invariant_of-self-2 : goal.invariant_of-self-2
invariant_of-self-2 c =
    let reading = c.self.invariant c.if-self.false in
    let gave = c.in-Ok.ensures in
    (after_read c.self.inside.delimiter c.self.inside.reader c.read_byte_record.new.self (fields_of c.read_byte_record.new.row) reading c.in-Ok.found
    (gave.reads reading.trim reading.ready) (gave.ready reading.trim) gave.flexible gave.goes).0

pub returns-clause-found : goal.returns-clause-found
returns-clause-found c =
    let reading = c.self.invariant c.if-self.false in
    let gave = c.in-Ok.ensures in
    let start : c.args.self.now ≡ records_left c.self.inside.delimiter c.self.inside.reader = sym c.self.view_is ∙ rw c.if-self.false refl in
    rw start (after_read c.self.inside.delimiter c.self.inside.reader c.read_byte_record.new.self (fields_of c.read_byte_record.new.row) reading c.in-Ok.found
    (gave.reads reading.trim reading.ready) (gave.ready reading.trim) gave.flexible gave.goes).1
