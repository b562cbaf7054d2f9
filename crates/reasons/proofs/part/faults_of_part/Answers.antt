use Rattle.std.proofs.Common.{◌<◌, ◌^◌, ap, arith, length, rules}
use Rattle.records.specs.Laws.{few_records}
use Rattle.reasons.proofs.part.faults_of_part.Goals as goal

pub invariant_of-result : goal.invariant_of-result
invariant_of-result c =
    let few = few_records 44 c.args.part.now in
    let small : length c.args.part.now < 2 ^ 63 = search rules in
    omega (arith, few, small, c.in_ok-header.ensures.fewer, ap length c.new-records.ensures)
