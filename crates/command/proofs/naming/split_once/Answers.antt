use Rattle.std.proofs.Common.{sym}
use Rattle.command.proofs.NamingLemmas.{cut_first, cut_none}
use Rattle.command.proofs.naming.split_once.Goals as goal

pub returns-in-Some-clause-split : goal.returns-in-Some-clause-split
returns-in-Some-clause-split c = cut_first c.args.byte c.args.text.now c.in-Some.at (sym c.in-Some.ensures.place)

pub returns-in-None-clause-split : goal.returns-in-None-clause-split
returns-in-None-clause-split c = cut_none c.args.byte c.args.text.now (sym c.in-None.ensures.place)
