use Rattle.std.proofs.Common.{◌<◌, ◌^◌, ap, arith, length, rules}
use Rattle.csv.specs.Writing.{comma}
use Rattle.records.specs.Laws.{few_records}
use Rattle.loader.proofs.part.read_later.Goals as goal

pub read_rows-requires : goal.read_rows-requires
read_rows-requires g c =
    let few = few_records comma c.args.bytes.now in
    let small : length c.args.bytes.now < 2 ^ 63 = search rules in
    omega (arith, few, small, ap length c.new.ensures)
