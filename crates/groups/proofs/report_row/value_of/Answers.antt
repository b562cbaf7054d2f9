use Rattle.std.proofs.Common.{ap, arith, length}
use Rattle.groups.proofs.GroupingLemmas.{short_columns}
use Rattle.groups.proofs.report_row.value_of.Goals as goal

pub grouping-requires : goal.grouping-requires
grouping-requires g c = omega (arith, ap length c.as_slice.ensures, short_columns c.args.item.now c.in-Grouping.columns c.in-Grouping.is c.requires)
