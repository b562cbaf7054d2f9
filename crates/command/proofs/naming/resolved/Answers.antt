use Rattle.std.proofs.Common.{◌∙◌, sym}
use Rattle.command.proofs.NamingLemmas.{script_stays}
use Rattle.command.proofs.naming.resolved.Goals as goal

pub returns-then-have_none-clause-exact : goal.returns-then-have_none-clause-exact
returns-then-have_none-clause-exact c = sym (script_stays c.args.names.now (sym c.have_none.ensures ∙ c.if-have_none.true) c.args.script.items)
