use Rattle.std.proofs.Common.{sym, ◌∙◌}
use Rattle.script.proofs.standing.Standing.reply.Goals as goal

pub hear-requires-clause-heard : goal.hear-requires-clause-heard
hear-requires-clause-heard g c = λ κs outlives. sym (c.hears.ensures c.args.self.now.lines.items c.requires.stands.number_is) ∙ c.if-hears.true

pub pass_over-requires-clause-unheard : goal.pass_over-requires-clause-unheard
pass_over-requires-clause-unheard g c = λ κs outlives. sym (c.hears.ensures c.args.self.now.lines.items c.requires.stands.number_is) ∙ c.if-hears.false
