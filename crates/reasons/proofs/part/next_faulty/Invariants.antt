use Rattle.std.proofs.Common.{◌≡◌, ◌+◌, ◌≤◌, length}
use Rattle.reasons.specs.Records.{faulty_from}
use Rattle.reasons.proofs.part.next_faulty.Given as goal

abbrev pub invariant-loop-record : goal.invariant-loop-record
invariant-loop-record l = record {
  same : faulty_from l.schema l.number l.records ≡ faulty_from l.schema l.initial.number l.initial.records;
  shorter : length l.records ≤ length l.initial.records;
  fewer : l.number + length l.records ≤ l.initial.number + length l.initial.records;
}

abbrev pub decreases-loop-record : goal.decreases-loop-record
decreases-loop-record l = length l.records
