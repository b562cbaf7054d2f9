use Rattle.std.proofs.Common.{sym, ◌∙◌}
use Rattle.script.proofs.standing.Standing.change.Goals as goal

pub change_heard-requires-clause-heard : goal.change_heard-requires-clause-heard
change_heard-requires-clause-heard g c = λ κs outlives. sym (c.hears.ensures c.args.self.now.lines.items c.requires.stands.number_is) ∙ c.if-hears.true

pub leave-requires-clause-unheard : goal.leave-requires-clause-unheard
leave-requires-clause-unheard g c = λ κs outlives. sym (c.hears.ensures c.args.self.now.lines.items c.requires.stands.number_is) ∙ c.if-hears.false
