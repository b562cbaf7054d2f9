use Rattle.std.proofs.Common.{rules, refl, sym, ◌∙◌}
use Rattle.olap.specs.Commands.{command_of}
use Rattle.olap.proofs.CommandsLemmas.{by_check, by_help, by_none, by_run, by_shard}
use Rattle.olap.proofs.asked.asked_by.Goals as goal

pub returns-in-help : goal.returns-in-help
returns-in-help c = by_help _ _ c.in-help.is _ c.asked_of_help.ensures

pub returns-in-check : goal.returns-in-check
returns-in-check c = by_check _ _ c.in-check.is _ c.asked_of_check.ensures

pub returns-in-query : goal.returns-in-query
unfolding command_of
returns-in-query c = record { command = search rules; own = search rules }

pub returns-in-schema : goal.returns-in-schema
unfolding command_of
returns-in-schema c = record { command = search rules; own = search rules }

pub returns-in-session : goal.returns-in-session
unfolding command_of
returns-in-session c = record { command = search rules; own = search rules }

pub returns-in-join : goal.returns-in-join
unfolding command_of
returns-in-join c = record { command = search rules; own = search rules }

pub returns-then-have_shard : goal.returns-then-have_shard
returns-then-have_shard c = record { command = by_shard _ _ c.in-run.is (sym c.have_shard.ensures ∙ c.if-have_shard.true); own = refl }

pub returns-else-have_shard : goal.returns-else-have_shard
returns-else-have_shard c = by_run _ _ c.in-run.is (sym c.have_shard.ensures ∙ c.if-have_shard.false)

pub returns-in_default : goal.returns-in_default
returns-in_default c =
    let no = c.in_default in
    by_none _ _ no.not-help no.not-check no.not-query no.not-schema no.not-session no.not-join no.not-run
