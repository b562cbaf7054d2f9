use Rattle.std.proofs.Common.{◌≡◌, ◌+◌, length}
use Rattle.prepare.specs.Parts.{records_from}
use Rattle.prepare.proofs.PartLemmas.{Reached}
use Rattle.prepare.proofs.part.with_records.Given as goal

abbrev pub invariant-loop-row : goal.invariant-loop-row
invariant-loop-row l = record {
  reached : Reached l.layout.choice.now l.layout.places.items l.layout.width l.fn.lines (records_from l.layout.choice.now l.layout.places.items l.layout.width 1 l.fn.records) l.number l.records l.lines;
  counted : l.number + length l.records ≡ length l.fn.records + 1;
}

abbrev pub decreases-loop-row : goal.decreases-loop-row
decreases-loop-row l = length l.records
